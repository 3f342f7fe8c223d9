-- Fields read one after another, and what each reader finds.
use Rattle.std.proofs.Common.{◌≡◌, ℕ, ◌+◌, Bool, true, false, cond, List, [], ◌∷◌, drop, ℤ, Ok, Err, Option, Result, sym, refl, ap, subst, arith}
use Rattle.std.specs.Option.{ok_or}
use Rattle.std.proofs.lemmas.List.{nil_from_length}
use Rattle.std.proofs.lemmas.Bool.{cond-true, ne_eqb, false≢true}
use Rattle.values.specs.Names.{is_commodity_name, is_account_name}
use Rattle.values.specs.Spelling.{IsCommodityName, IsAccountName}
use Rattle.values.proofs.Accounts.{account_decides}
use Rattle.values.proofs.Commodities.{commodity_decides}
use Rattle.fields.specs.Dates.{date, date_at}
use Rattle.fields.specs.Denotes.{Denotes, WritesDate}
use Rattle.fields.specs.Numbers.{number, number_at}
use Rattle.fields.specs.Results.{and_then}
use Rattle.fields.specs.Spots.{Spot, commodity_at, account_at}
use Rattle.fields.specs.declared.fault.FieldFault.{FieldFault}
use Rattle.fields.specs.declared.fault.FieldFault.TheVariants as field
use Rattle.fields.proofs.Days.{reading_dates}
use Rattle.fields.proofs.Denotations.{reading_denotes}
use Rattle.fields.proofs.Options.{none_some, from_ok}
use Rattle.lines.specs.Cuts.{field_at, field_end, missing}
use Rattle.lines.specs.Grammar.{Spaces, Next, Front, Fields}
use Rattle.lines.specs.Postings.{ends_at}
use Rattle.lines.proofs.Fronts.{next_found, next_only, none_found, none_only}

-- results

pub err_ok : {A B E : Type 0} {e : E} {x : A} → Err e ≡ Ok x → B
err_ok h = absurd (grind arith)

pub same_ok : {A E : Type 0} {x y : A} → ◌≡◌ {A = Result A E} (Ok x) (Ok y) → x ≡ y
same_ok h = cc

pub from_and_then : {A B E F : Type 0} (f : E → F) (r : Result A E) (k : A → Result B F) (y : B) → and_then f r k ≡ Ok y → (x : A) × (r ≡ Ok x) × (k x ≡ Ok y)
from_and_then f (Ok x) k y e = (x, refl, e)
from_and_then f (Err d) k y e = err_ok e

from_cond_ok : {A E : Type 0} (b : Bool) (x : A) (d : E) (y : A) → cond b (Ok x) (Err d) ≡ Ok y → (b ≡ true) × (x ≡ y)
from_cond_ok true x d y e = (refl, same_ok e)
from_cond_ok false x d y e = err_ok e

-- names, numbers and dates

pub from_commodity : (s n : Spot) → commodity_at s ≡ Ok n → (s ≡ n) × IsCommodityName s.text
unfolding commodity_at
from_commodity s n e = let p = from_cond_ok (is_commodity_name s.text) s _ n e in (p.1, (commodity_decides s.text).0 p.0)

pub to_commodity : (s : Spot) → IsCommodityName s.text → commodity_at s ≡ Ok s
unfolding commodity_at
to_commodity s h = cond-true _ _ _ ((commodity_decides s.text).1 h)

pub from_account : (s n : Spot) → account_at s ≡ Ok n → (s ≡ n) × IsAccountName s.text
unfolding account_at
from_account s n e = let p = from_cond_ok (is_account_name s.text) s _ n e in (p.1, (account_decides s.text).0 p.0)

pub to_account : (s : Spot) → IsAccountName s.text → account_at s ≡ Ok s
unfolding account_at
to_account s h = cond-true _ _ _ ((account_decides s.text).1 h)

pub from_number : (t : List ℕ) (p : ℕ) (v : ℤ) → number_at t p ≡ Ok v → Denotes t v
unfolding number_at
from_number t p v e = (reading_denotes t v).0 (from_ok (number t) _ v (sym e))

pub to_number : (t : List ℕ) (p : ℕ) (v : ℤ) → Denotes t v → number_at t p ≡ Ok v
unfolding number_at
to_number t p v d = let made : Option ℤ → Result ℤ FieldFault = λ o. ok_or o (field.Number p) in ap made ((reading_denotes t v).1 d)

pub from_date : (t : List ℕ) (p n : ℕ) → date_at t p ≡ Ok n → WritesDate t n
unfolding date_at
from_date t p n e = (reading_dates t n).0 (from_ok (date t) _ n (sym e))

pub to_date : (t : List ℕ) (p n : ℕ) → WritesDate t n → date_at t p ≡ Ok n
unfolding date_at
to_date t p n w = let made : Option ℕ → Result ℕ FieldFault = λ o. ok_or o (field.Date p) in ap made ((reading_dates t n).1 w)

-- each of them has some bytes

pub no_commodity : IsCommodityName [] → ⊥
no_commodity h = omega (arith, h.two_or_more)

pub no_account : IsAccountName [] → ⊥
unfolding is_account_name
no_account h = false≢true ((account_decides []).1 h)

pub no_number : (v : ℤ) → Denotes [] v → ⊥
no_number v d = none_some ((reading_denotes [] v).1 d)

pub no_date : (n : ℕ) → WritesDate [] n → ⊥
no_date n w = none_some ((reading_dates [] n).1 w)

pub present : (P : List ℕ → Type 0) → (P [] → ⊥) → (s : Spot) → P s.text → missing s ≡ false
present P none s h = ne_eqb _ _ (λ z. none (subst P (nil_from_length s.text z) h))

-- fields from an index of a line on

module _ (line : List ℕ) where
  pub ends_found : (from : ℕ) (x : Unit {0}) → ends_at line from ≡ Ok x → Spaces (drop from line)
  unfolding ends_at
  ends_found from x e = none_found line from (from_cond_ok (missing (field_at line from)) tt _ x e).0

  pub ends_only : (from : ℕ) → Spaces (drop from line) → ends_at line from ≡ Ok tt
  unfolding ends_at
  ends_only from h = cond-true _ _ _ (none_only line from h)

  pub found : (P : List ℕ → Type 0) → (P [] → ⊥) → (from : ℕ) → P (field_at line from).text → Next (from + 1) (drop from line) (field_at line from) (drop (field_end line from) line) (field_end line from + 1)
  found P none from h = next_found line from (present P none (field_at line from) h)

  pub front_only : (from : ℕ) (f : Spot) (fs : List Spot) (rest : List ℕ) (q : ℕ) → Front (from + 1) (drop from line) (f ∷ fs) rest q → (field_at line from ≡ f) × Front (field_end line from + 1) (drop (field_end line from) line) fs rest q
  front_only from f fs rest q h =
      let o = next_only line from f h.0 h.1 h.2 in (
        o.0,
        subst (λ (r : ℕ). Front r (drop (field_end line from) line) fs rest q) (sym o.2) (subst (λ (t : List ℕ). Front h.1 t fs rest q) (sym o.1) h.3),
      )

  pub fields_only : (from : ℕ) (f : Spot) (fs : List Spot) → Fields (from + 1) (drop from line) (f ∷ fs) → (field_at line from ≡ f) × Fields (field_end line from + 1) (drop (field_end line from) line) fs
  fields_only from f fs h = let o = front_only from f fs h.0 h.1 h.2 in (o.0, (h.0, h.1, o.1, h.3))

pub fields_end : (p : ℕ) (t : List ℕ) → Spaces t → Fields p t []
fields_end p t h = (t, p, (refl, refl), h)

pub fields_none : (p : ℕ) (t : List ℕ) → Fields p t [] → Spaces t
fields_none p t h = subst Spaces (sym h.2.0) h.3

pub fields_more : (p : ℕ) (t : List ℕ) (f : Spot) (fs : List Spot) (more : List ℕ) (r : ℕ) → Next p t f more r → Fields r more fs → Fields p t (f ∷ fs)
fields_more p t f fs more r n h = (h.0, h.1, (more, r, n, h.2), h.3)
