-- Number reading finds just what a text denotes.
use Rattle.std.proofs.lemmas.Bool.Decides.{nat_tests}
use Rattle.std.proofs.Common.{◌≡◌, ℕ, ◌+◌, ◌-◌, ◌*◌, ◌^◌, ◌<◌, ◌≤◌, Bool, true, false, ◌&&◌, eqb, leb, List, [], ◌∷◌, ◌++◌, length, get_or, take, drop, ℤ, pos, neg_ℤ, Some, fold, sym, refl, ap, ◌∙◌, ⊎_elim, mul-one, one-add, arith}
use Rattle.std.specs.Char.{is_ascii_digit}
use Rattle.std.specs.Option.{option_map}
use Rattle.std.specs.List.{AllByRecursion}
use Rattle.std.proofs.lemmas.List.{take_at, drop_at, take-append-drop}
use Rattle.std.proofs.lemmas.Bool.{cases_Bool, and_from, and_parts, le-leb, leb-true, eqb-true, cond-true, cond-false, ne_eqb}
use Rattle.fields.specs.Decimal.{decimal, decimal_after}
use Rattle.values.specs.Spelling.{Digit}
use Rattle.values.proofs.Commodities.{within_decides}
use Rattle.fields.specs.Denotes.{value, Valid, sign, point, size, amount, Denotes}
use Rattle.byte_text.specs.Classes.{before}
use Rattle.fields.specs.Numbers.{whole, fraction, unsigned, number}
use Rattle.fields.proofs.Options.{none_some, from_bind, from_mapped, from_cond}

-- digits and what they write

pub written : (n : ℕ) (ds : List ℕ) → AllByRecursion Digit ds → decimal_after n ds ≡ Some (fold (λ n b. n * 10 + (b - 48)) n ds)
written n [] h = refl
written n (b ∷ bs) h = cond-true _ _ _ ((within_decides 48 57 b).1 h.0) ∙ written (n * 10 + (b - 48)) bs h.1

pub from_decimal : (n : ℕ) (ds : List ℕ) (v : ℕ) → decimal_after n ds ≡ Some v → AllByRecursion Digit ds × (v ≡ fold (λ n b. n * 10 + (b - 48)) n ds)
from_decimal n [] v e = (tt, cc)
from_decimal n (b ∷ bs) v e =
    let p = from_cond (is_ascii_digit b) _ v e in
    let q = from_decimal (n * 10 + (b - 48)) bs v p.1 in
    (((within_decides 48 57 b).0 p.0, q.0), q.1)

digit_not : (b c : ℕ) → Digit b → c < 48 → eqb b c ≡ false
digit_not b c d h = ne_eqb b c (λ e. omega arith)

-- the point stands behind the digits
pub before_point : (ws cs : List ℕ) → AllByRecursion Digit ws → before 46 (ws ++ point cs) ≡ length ws
before_point [] [] h = refl
before_point [] (c ∷ cs) h = refl
before_point (w ∷ ws) cs h = let n = digit_not w 46 h.0 (omega arith) in rw (n, before_point ws cs h.1, one-add)

pub whole_is : (ws : List ℕ) → AllByRecursion Digit ws → 1 ≤ length ws → length ws ≤ 6 → whole ws ≡ Some (value ws)
whole_is ws d p q = cond-true _ _ _ (and_from _ _ (le-leb 1 (length ws) p) (le-leb (length ws) 6 q)) ∙ written 0 ws d

pub fraction_is : (cs : List ℕ) → AllByRecursion Digit cs → length cs ≤ 2 → fraction (point cs) ≡ Some (value cs * 10 ^ (2 - length cs))
fraction_is [] d h = refl
fraction_is (a ∷ []) d h = ap (option_map (λ (n : ℕ). n * 10)) (written 0 (a ∷ []) d)
fraction_is (a ∷ b ∷ []) d h = written 0 (a ∷ b ∷ []) d ∙ ap Some (sym (mul-one _))
fraction_is (a ∷ b ∷ c ∷ cs) d h = absurd (omega arith)

-- a numeral's text is read as its amount

pub unsigned_is : (s : Bool) (ws cs : List ℕ) → Valid (record { minus = s; whole = ws; decimals = cs }) → unsigned (ws ++ point cs) ≡ Some (size (record { minus = s; whole = ws; decimals = cs }))
unsigned_is s ws cs v =
    let k = before_point ws cs v.whole_digits in
    let w = whole_is ws v.whole_digits v.whole_some v.whole_few in
    let f = fraction_is cs v.decimal_digits v.decimals_few in
    rw (k, take_at ws (point cs) (length ws) refl, drop_at ws (point cs) (length ws) refl, w, f)

pub complete : (s : Bool) (ws cs : List ℕ) → Valid (record { minus = s; whole = ws; decimals = cs }) → number (sign s ++ (ws ++ point cs)) ≡ Some (amount (record { minus = s; whole = ws; decimals = cs }))
complete true ws cs v = ap (option_map (λ (n : ℕ). neg_ℤ (pos n))) (unsigned_is true ws cs v)
complete false [] cs v = absurd (omega (arith, v.whole_some))
complete false (w ∷ ws) cs v = cond-false _ _ _ (digit_not w 45 v.whole_digits.0 (omega arith)) ∙ ap (option_map pos) (unsigned_is false (w ∷ ws) cs v)

-- and a text that is read is that of a numeral

at_point : (t : List ℕ) → 0 < length (drop (before 46 t) t) → get_or (drop (before 46 t) t) 0 0 ≡ 46
at_point [] h = absurd (omega arith)
at_point (b ∷ bs) h =
    ⊎_elim
    (λ (e : eqb b 46 ≡ true). rw e (eqb-true b 46 e))
    (λ (e : eqb b 46 ≡ false). let z = simp (e, one-add) at h in rw (e, one-add) (at_point bs z))
    (cases_Bool (eqb b 46))

pub record Decimals (f : List ℕ) (b : ℕ) : Type 0 where
  pub decimals : List ℕ
  pub digits : AllByRecursion Digit decimals
  pub few : length decimals ≤ 2
  pub text : f ≡ point decimals
  pub worth : b ≡ value decimals * 10 ^ (2 - length decimals)

from_fraction : (f : List ℕ) (b : ℕ) → (0 < length f → get_or f 0 0 ≡ 46) → fraction f ≡ Some b → Decimals f b
from_fraction [] b p e = record { decimals = []; digits = tt; few = omega arith; text = refl; worth = cc }
from_fraction (x ∷ []) b p e = none_some e
from_fraction (x ∷ y ∷ []) b p e =
    let q = from_mapped (decimal (y ∷ [])) (λ (n : ℕ). n * 10) b e in
    let d = from_decimal 0 (y ∷ []) q.0 q.1 in
    record { decimals = y ∷ []; digits = d.0; few = omega arith; text = ap (λ (x : ℕ). x ∷ y ∷ []) (p (omega arith)); worth = sym q.2 ∙ ap (λ (n : ℕ). n * 10) d.1 }
from_fraction (x ∷ y ∷ z ∷ []) b p e =
    let d = from_decimal 0 (y ∷ z ∷ []) b e in
    record { decimals = y ∷ z ∷ []; digits = d.0; few = omega arith; text = ap (λ (x : ℕ). x ∷ y ∷ z ∷ []) (p (omega arith)); worth = d.1 ∙ sym (mul-one _) }
from_fraction (x ∷ y ∷ z ∷ u ∷ us) b p e = grind (arith, nat_tests)

from_unsigned : (s : Bool) (t : List ℕ) (n : ℕ) → unsigned t ≡ Some n → (ws : List ℕ) × (cs : List ℕ) × Valid (record { minus = s; whole = ws; decimals = cs }) × (t ≡ ws ++ point cs) × (n ≡ size (record { minus = s; whole = ws; decimals = cs }))
from_unsigned s t n e =
    let k = before 46 t in
    let p = from_bind (whole (take k t)) (λ (n : ℕ). option_map (λ (f : ℕ). n * 100 + f) (fraction (drop k t))) n e in
    let q = from_mapped (fraction (drop k t)) (λ (f : ℕ). p.0 * 100 + f) n p.2 in
    let w = from_cond (leb 1 (length (take k t)) && leb (length (take k t)) 6) (decimal (take k t)) p.0 p.1 in
    let d = from_decimal 0 (take k t) p.0 w.1 in
    let l = and_parts (leb 1 (length (take k t))) (leb (length (take k t)) 6) w.0 in
    let f = from_fraction (drop k t) q.0 (at_point t) q.1 in (
      take k t,
      f.decimals,
      record { whole_digits = d.0; whole_some = leb-true _ _ l.0; whole_few = leb-true _ _ l.1; decimal_digits = f.digits; decimals_few = f.few },
      sym (take-append-drop k t) ∙ ap (λ (x : List ℕ). take k t ++ x) f.text,
      sym q.2 ∙ omega (arith, ap (λ (x : ℕ). x * 100) d.1, f.worth),
    )

pub sound : (t : List ℕ) (v : ℤ) → number t ≡ Some v → Denotes t v
sound t v e =
    ⊎_elim
    (λ (h : eqb (get_or t 0 0) 45 ≡ true).
    let p = from_mapped (unsigned (drop 1 t)) (λ (n : ℕ). neg_ℤ (pos n)) v (simp h at e) in
    let u = from_unsigned true (drop 1 t) p.0 p.1 in (
      record { minus = true; whole = u.0; decimals = u.1 },
      u.2,
      minus_first t h ∙ ap (λ (x : List ℕ). 45 ∷ x) u.3,
      sym p.2 ∙ ap (λ (n : ℕ). neg_ℤ (pos n)) u.4,
    ))
    (λ (h : eqb (get_or t 0 0) 45 ≡ false).
    let p = from_mapped (unsigned t) pos v (simp h at e) in
    let u = from_unsigned false t p.0 p.1 in
    (record { minus = false; whole = u.0; decimals = u.1 }, u.2, u.3, sym p.2 ∙ ap pos u.4))
    (cases_Bool (eqb (get_or t 0 0) 45))
  where
    minus_first : (t : List ℕ) → eqb (get_or t 0 0) 45 ≡ true → t ≡ 45 ∷ drop 1 t
    minus_first [] h = absurd (omega (arith, eqb-true 0 45 h))
    minus_first (b ∷ bs) h = ap (λ (x : ℕ). x ∷ bs) (eqb-true b 45 h)

pub reading_denotes : (t : List ℕ) (v : ℤ) → (number t ≡ Some v → Denotes t v) × (Denotes t v → number t ≡ Some v)
reading_denotes t v = (sound t v, λ d. ap number d.2 ∙ complete d.0.minus d.0.whole d.0.decimals d.1 ∙ ap Some (sym d.3))
