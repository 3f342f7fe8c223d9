-- No more lots are open than can be, each within its ranges, since purchases that would pass them are refused.
use Rattle.std.proofs.Common.{◌≡◌, ℕ, suc, ◌+◌, ◌<◌, ◌≤◌, Bool, true, false, cond, not, ◌&&◌, ◌||◌, leb, List, [], ◌∷◌, length, None, refl, ap, subst, arith}
use Rattle.std.specs.List.{AllByRecursion}
use Rattle.std.proofs.lemmas.List.{length_push}
use Rattle.std.proofs.ByRecursion.{All-push, All-weaker}
use Rattle.std.proofs.lemmas.Bool.Decides.{nat_tests}
use Rattle.books.proofs.Tests.{none_met}
use Rattle.std.proofs.lemmas.Bool.{false≢true, cond_both, ltb-false}
use Rattle.lots.specs.declared.rows.Key.{Key}
use Rattle.lots.specs.declared.rows.LotRow.{LotRow}
use Rattle.lots.specs.Rows.{most, in_range, with_more, with_fewer}
use Rattle.lots.specs.Orders.{Order}
use Rattle.matching.specs.Matching.{matches}
use Rattle.matching.specs.Drawing.{gives, lots_left}
use Rattle.matching.proofs.Sums.{by_bool}
use Rattle.stock.specs.Tables.{Table, most_lots, of_key, is_open, units_of_key, purchase_tests, add_units}
use Rattle.stock.specs.Kept.{WellKept}
use Rattle.booking.specs.declared.posting.Posting.{Posting}
use Rattle.booking.specs.declared.posting.PostingKind.{PostingKind}
use Rattle.booking.specs.declared.posting.PostingKind.TheVariants.{Purchase, Reduction}
use Rattle.booking.specs.Postings.{purchase_key, wanted_lots, table_after_kind, table_after_posting, kind_refusal, posting_refusal}
use Rattle.booking.specs.Booking.{table_after, first_fault}
use Rattle.law.proofs.Serials.{Sound, LotOfOpening, all_left, added_new}
use Rattle.law.proofs.Reaching.{first_none}
use Rattle.law.proofs.Postings.{Buys, KindOfPostingThere, PostingThere}

pub record Within (t : Table) : Type 0 where
  pub at_most : length t.lots ≤ most_lots
  pub ranges : AllByRecursion (λ r. in_range r ≡ true) t.lots

in_range_from : (r : LotRow) → 1 ≤ r.units → r.units ≤ most → r.key.cost.number ≤ most → in_range r ≡ true
in_range_from r some few cheap = grind (arith, nat_tests)

in_range_parts : (r : LotRow) → in_range r ≡ true → (1 ≤ r.units) × (r.units ≤ most) × (r.key.cost.number ≤ most)
in_range_parts r e = (grind (arith, nat_tests), grind (arith, nat_tests), grind (arith, nat_tests))

-- Purchases.

module _ (k : Key) (n next : ℕ) (some : 1 ≤ n) where
  grown_length : (lots : List LotRow) → is_open k lots ≡ true → length (add_units k n next lots) ≡ length lots
  grown_length [] e = absurd (false≢true e)
  grown_length (r ∷ rs) e =
      by_bool (of_key k r) (λ (b : Bool). (b || is_open k rs) ≡ true → length (cond b (with_more r n ∷ rs) (r ∷ add_units k n next rs)) ≡ suc (length rs))
      (λ _ _. refl) (λ _ f. ap (λ (m : ℕ). suc m) (grown_length rs f)) e

  grown_ranges : (lots : List LotRow) → is_open k lots ≡ true → units_of_key k lots + n ≤ most → AllByRecursion (λ r. in_range r ≡ true) lots → AllByRecursion (λ r. in_range r ≡ true) (add_units k n next lots)
  grown_ranges [] e few all = absurd (false≢true e)
  grown_ranges (r ∷ rs) e few all =
      by_bool (of_key k r) (λ (b : Bool). (b || is_open k rs) ≡ true → cond b r.units 0 + units_of_key k rs + n ≤ most → AllByRecursion (λ r. in_range r ≡ true) (cond b (with_more r n ∷ rs) (r ∷ add_units k n next rs)))
      (λ _ _ sum. let p = in_range_parts r all.0 in (in_range_from (with_more r n) (omega arith) (omega arith) p.2, all.1))
      (λ _ f sum. (all.0, grown_ranges rs f (omega arith) all.1))
      e few

bought_within : (k : Key) (n : ℕ) (t : Table) → Buys n k.cost → units_of_key k t.lots + n ≤ most → (b : Bool) → is_open k t.lots ≡ b → (not b && leb most_lots (length t.lots)) ≡ false → Within t
    → Within (record { lots = add_units k n t.next t.lots; next = cond b t.next (t.next + 1) })
bought_within k n t buys few true e met w =
    record { at_most = let l = grown_length k n t.next buys.some t.lots e in let m = w.at_most in omega arith; ranges = grown_ranges k n t.next buys.some t.lots e few w.ranges }
bought_within k n t buys few false e met w =
    let x : LotRow = record { key = k; units = n; serial = t.next } in
    let room : length t.lots < most_lots = grind (arith, nat_tests, met) in
    subst (λ (xs : List LotRow). Within (record { lots = xs; next = t.next + 1 })) (added_new k n t.next t.lots e)
    (record { at_most = let l = length_push t.lots x in omega arith; ranges = All-push (λ r. in_range r ≡ true) t.lots x w.ranges (in_range_from x buys.some buys.few buys.cheap) })

-- Reductions.

left_length : (g : LotRow → ℕ) (lots : List LotRow) → length (lots_left g lots) ≤ length lots
left_length g [] = omega arith
left_length g (r ∷ rs) =
    let ih = left_length g rs in
    cond_both (leb r.units (g r)) (lots_left g rs) (with_fewer r (g r) ∷ lots_left g rs) (λ xs. length xs ≤ suc (length rs)) (λ _. omega arith) (λ _. omega arith)

left_ranges : (g : LotRow → ℕ) (lots : List LotRow) → AllByRecursion (λ r. in_range r ≡ true) lots → AllByRecursion (λ r. in_range r ≡ true) (lots_left g lots)
left_ranges g lots all = all_left (λ r. in_range r ≡ true) g (λ r e l. let p = in_range_parts r e in let few = p.1 in in_range_from (with_fewer r (g r)) (omega arith) (omega arith) p.2) lots all

-- Postings.

kind_within : (o : Order) (day a : ℕ) (t : Table) (kind : PostingKind) → KindOfPostingThere a kind → kind_refusal o day a t kind ≡ None → Within t → Within (table_after_kind o day a t kind)
kind_within o day a t (Purchase n commodity cost date) there e w =
    let k = purchase_key day a commodity cost date in
    let unmet = none_met (purchase_tests k n t) e in
    bought_within k n t there (ltb-false most (units_of_key k t.lots + n) unmet.0) (is_open k t.lots) refl unmet.1.0 w
kind_within o day a t (Reduction u commodity cost date) there e w =
    let g = gives (matches (wanted_lots a commodity cost date)) (o.before u) u t.lots in
    record { at_most = let l = left_length g t.lots in let m = w.at_most in omega arith; ranges = left_ranges g t.lots w.ranges }
kind_within o day a t _ there e w = w

pub postings_within : (o : Order) (day : ℕ) (ps : List Posting) (t : Table) → AllByRecursion PostingThere ps → first_fault o day t ps ≡ None → Within t → Within (table_after o day t ps)
postings_within o day [] t there e w = w
postings_within o day (p ∷ ps) t there e w =
    let after = table_after_posting o day t p in
    let h = first_none p.line (posting_refusal o day t p) (first_fault o day after ps) e in
    postings_within o day ps after there.1 h.1 (kind_within o day p.account t p.kind there.0 h.0 w)

-- with the serials of their openings
pub well_kept : (t : Table) (opened : List Key) → Sound opened t → Within t → WellKept t
well_kept t opened s w =
    let c = s.counted in
    record {
      at_most = w.at_most;
      ranges = w.ranges;
      from_one = omega arith;
      serials_given = All-weaker (LotOfOpening opened) (λ r. (1 ≤ r.serial) × (r.serial < t.next)) (λ r m. let g = m.given in (m.from_one, omega arith)) t.lots s.serials;
      serials_rise = s.rising;
      keys_differ = s.differ;
    }
