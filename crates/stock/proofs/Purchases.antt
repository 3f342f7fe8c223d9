-- A purchase by the place of its lot is the purchase that the table defines.
use Rattle.std.proofs.Common.{◌≡◌, ℕ, suc, ◌+◌, ◌<◌, ◌≤◌, true, false, cond, ◌||◌, leb, ltb, List, [], ◌∷◌, ◌++◌, length, get_or, take, drop, set, Some, None, Ok, Err, Option, Result, sym, refl, ap, ◌∙◌, subst, ⊎_elim, arith}
use Rattle.std.specs.List.{AllByRecursion}
use Rattle.std.proofs.ByRecursion.{All-from_get_or, All-weaker}
use Rattle.std.proofs.lemmas.Bool.{cond-true, or_left, le-leb, cases_lt}
use Rattle.std.proofs.lemmas.Bool.Decides.{nat_tests}
use Rattle.refusal.specs.declared.Refusal.{Refusal}
use Rattle.refusal.specs.declared.Refusal.TheVariants.{LotTooLarge}
use Rattle.lots.specs.declared.rows.Key.{Key}
use Rattle.lots.specs.declared.rows.LotRow.{LotRow}
use Rattle.lots.specs.Rows.{most, in_range, same_key, no_lot, with_more}
use Rattle.matching.specs.Matching.{units_if}
use Rattle.matching.proofs.Drawing.{sum_of_zero_all}
use Rattle.matching.proofs.Steps.{sum_of_split}
use Rattle.matching.proofs.Splits.{split_at, set_at, pairs_others}
use Rattle.stock.specs.Tables.{Table, last_serial, answered, of_key, is_open, units_of_key, add_units, serial_for, purchased, purchased_late, purchase_refusal, table_after_purchase}
use Rattle.stock.specs.Promises.{BringsUnits}
use Rattle.stock.specs.Places.{OpenAt, opened}
use Rattle.stock.specs.Kept.{WellKept, KeysDiffer}
use Rattle.stock.proofs.Keeping.{key_same, key_itself, kept_pushed}

-- n units more for the lot at place i
abbrev pub grown_at : ℕ → ℕ → Table → Result ℕ Refusal × Table
grown_at i n t =
    cond (ltb most ((get_or t.lots i no_lot).units + n)) (Err LotTooLarge, t)
    (Ok (get_or t.lots i no_lot).serial, record { lots = set t.lots i (with_more (get_or t.lots i no_lot) n); next = t.next })

-- no lot of the key
abbrev Other : Key → LotRow → Type 0
Other k r = of_key k r ≡ false

other_key : (k : Key) (r : LotRow) → (r.key ≡ k → ⊥) → Other k r
other_key k r ne = let same = key_same r.key k in grind arith

pub keys_others : (k : Key) (lots : List LotRow) → OpenAt k lots None → AllByRecursion (λ r. r.key ≡ k → ⊥) lots
keys_others k lots none =
    All-weaker (Other k) (λ r. r.key ≡ k → ⊥) (λ r f e. let same = key_itself k in cc) lots (All-from_get_or (Other k) lots no_lot none)

-- a new lot keeps what holds of the table
pub kept_opened : (t : Table) (k : Key) (n : ℕ) (rows : List LotRow) (next : ℕ) → rows ≡ t.lots ++ (record { key = k; units = n; serial = t.next } ∷ []) → next ≡ t.next + 1 → length t.lots < 256 → in_range (record { key = k; units = n; serial = t.next }) ≡ true → OpenAt k t.lots None → WellKept t → WellKept (record { lots = rows; next = next })
kept_opened t k n rows next e s room good none w =
    rw (e, s) (kept_pushed t.lots (record { key = k; units = n; serial = t.next }) room good (keys_others k t.lots none) w)

units_none : (k : Key) (lots : List LotRow) → AllByRecursion (Other k) lots → units_of_key k lots ≡ 0
units_none k lots all = sum_of_zero_all (units_if (of_key k)) lots (All-weaker (Other k) (λ r. units_if (of_key k) r ≡ 0) (λ r f. cc) lots all)

not_open : (k : Key) (lots : List LotRow) → AllByRecursion (Other k) lots → is_open k lots ≡ false
not_open k [] all = refl
not_open k (r ∷ rs) all = let here = all.0 in let ih = not_open k rs all.1 in cc

add_new : (k : Key) (n next : ℕ) (lots : List LotRow) → AllByRecursion (Other k) lots → add_units k n next lots ≡ lots ++ (record { key = k; units = n; serial = next } ∷ [])
add_new k n next [] all = refl
add_new k n next (r ∷ rs) all = let here = all.0 in let ih = add_new k n next rs all.1 in cc

serial_new : (k : Key) (next : ℕ) (lots : List LotRow) → AllByRecursion (Other k) lots → serial_for k next lots ≡ next
serial_new k next [] all = refl
serial_new k next (r ∷ rs) all = let here = all.0 in let ih = serial_new k next rs all.1 in cc

-- the lot of the key stands between ys and zs, and no other has it
module _ (k : Key) (x : LotRow) (own : of_key k x ≡ true) (zs : List LotRow) where
  open_there : (ys : List LotRow) → is_open k (ys ++ x ∷ zs) ≡ true
  open_there [] = cc
  open_there (y ∷ ys) = let ih = open_there ys in grind arith

  add_there : (n next : ℕ) (ys : List LotRow) → AllByRecursion (Other k) (ys ++ zs) → add_units k n next (ys ++ x ∷ zs) ≡ ys ++ with_more x n ∷ zs
  add_there n next [] all = cc
  add_there n next (y ∷ ys) all = let here = all.0 in let ih = add_there n next ys all.1 in cc

  serial_there : (next : ℕ) (ys : List LotRow) → AllByRecursion (Other k) (ys ++ zs) → serial_for k next (ys ++ x ∷ zs) ≡ x.serial
  serial_there next [] all = cc
  serial_there next (y ∷ ys) all = let here = all.0 in let ih = serial_there next ys all.1 in cc

  units_there : (ys : List LotRow) → AllByRecursion (Other k) (ys ++ zs) → units_of_key k (ys ++ x ∷ zs) ≡ x.units
  units_there ys all =
      let s = sum_of_split (units_if (of_key k)) ys x zs in
      let rest = units_none k (ys ++ zs) all in
      grind arith

module _ (k : Key) (n : ℕ) (t : Table) where
  grown_is_purchased : WellKept t → (i : ℕ) → OpenAt k t.lots (Some i) → grown_at i n t ≡ purchased k n t
  grown_is_purchased w i at =
      let lots = t.lots in
      let ys = take i lots in
      let x = get_or lots i no_lot in
      let zs = drop (suc i) lots in
      let split = split_at lots i no_lot at.0 in
      let key = key_same x.key k at.1 in
      let others = pairs_others (λ r s. r.key ≡ s.key → ⊥) (Other k) ys x zs (λ r ne. other_key k r (λ e. ne (e ∙ sym key))) (λ r ne. other_key k r (λ e. ne (key ∙ sym e))) (subst (λ (rs : List LotRow). KeysDiffer rs) split w.keys_differ) in
      let after = set lots i (with_more x n) in
      let held = ap (units_of_key k) split ∙ units_there k x at.1 zs ys others in
      let there = ap (is_open k) split ∙ open_there k x at.1 zs ys in
      let added = ap (add_units k n t.next) split ∙ add_there k x at.1 zs n t.next ys others ∙ sym (set_at lots i (with_more x n) at.0) in
      let serial = ap (serial_for k t.next) split ∙ serial_there k x at.1 zs t.next ys others in
      grind arith

  module _ (small : n ≤ most) (none : OpenAt k t.lots None) where
    others : AllByRecursion (Other k) t.lots
    others = All-from_get_or (Other k) t.lots no_lot none

    abbrev after : List LotRow
    after = t.lots ++ (record { key = k; units = n; serial = t.next } ∷ [])

    opened_is_purchased : t.next < last_serial → opened k n t ≡ purchased k n t
    opened_is_purchased low =
        let held = units_none k t.lots others in
        let shut = not_open k t.lots others in
        let added = add_new k n t.next t.lots others in
        let serial = serial_new k t.next t.lots others in
        grind (arith, nat_tests)

    opened_is_late : last_serial ≤ t.next → opened k n t ≡ purchased_late k n t
    opened_is_late high =
        let shut = not_open k t.lots others in
        grind (arith, nat_tests)

  grown_is_late : WellKept t → (i : ℕ) → OpenAt k t.lots (Some i) → grown_at i n t ≡ purchased_late k n t
  grown_is_late w i at =
      let split = split_at t.lots i no_lot at.0 in
      let there = ap (is_open k) split ∙ open_there k (get_or t.lots i no_lot) at.1 (drop (suc i) t.lots) (take i t.lots) in
      let booked = grown_is_purchased w i at in
      cc

-- What a purchase promises.

more_units : (k j : Key) (r : LotRow) (n : ℕ) → of_key k r ≡ true → units_if (of_key j) (with_more r n) ≡ units_if (of_key j) r + cond (same_key k j) n 0
more_units k j r n own = grind (arith, nat_tests)

add_brings : (k j : Key) (n next : ℕ) (lots : List LotRow) → units_of_key j (add_units k n next lots) ≡ units_of_key j lots + cond (same_key k j) n 0
add_brings k j n next [] = omega arith
add_brings k j n next (r ∷ rs) =
    let here = more_units k j r n in
    let ih = add_brings k j n next rs in
    grind arith

module _ (k : Key) (n : ℕ) (t : Table) where
  answered_brings : (refusal : Option Refusal) → BringsUnits k n t (answered refusal (serial_for k t.next t.lots) (table_after_purchase k n t) t)
  answered_brings None = λ j. add_brings k j n t.next t.lots
  answered_brings (Some e) = tt

  brings : (p : Result ℕ Refusal × Table) → p ≡ purchased k n t → BringsUnits k n t p
  brings p e = subst (λ (q : Result ℕ Refusal × Table). BringsUnits k n t q) (sym e) (answered_brings (purchase_refusal k n t))

-- what a purchase promises of its answer and the table after it
abbrev pub Promised : Key → ℕ → Table → Result ℕ Refusal × Table → Type 0
Promised k n t p = (t.next < last_serial → p ≡ purchased k n t) × (last_serial ≤ t.next → p ≡ purchased_late k n t) × BringsUnits k n t p

module _ (k : Key) (n : ℕ) (t : Table) (p : Result ℕ Refusal × Table) where
  pub grown_promised : WellKept t → (i : ℕ) → OpenAt k t.lots (Some i) → p ≡ grown_at i n t → Promised k n t p
  grown_promised w i at e =
      let booked = e ∙ grown_is_purchased k n t w i at in
      (λ _. booked, λ _. e ∙ grown_is_late k n t w i at, brings k n t p booked)

  pub opened_promised : n ≤ most → OpenAt k t.lots None → p ≡ opened k n t → Promised k n t p
  opened_promised small none e = (
    λ low. e ∙ opened_is_purchased k n t small none low,
    λ high. e ∙ opened_is_late k n t small none high,
    -- a new lot may be refused for want of a serial too
    ⊎_elim
        (λ (low : t.next < last_serial). brings k n t p (e ∙ opened_is_purchased k n t small none low))
        (λ (high : last_serial ≤ t.next). subst (λ (q : Result ℕ Refusal × Table). BringsUnits k n t q) (sym (e ∙ cond-true (leb last_serial t.next || leb 256 (length t.lots)) _ _ (or_left (leb last_serial t.next) (leb 256 (length t.lots)) (le-leb last_serial t.next high)))) tt)
        (cases_lt t.next last_serial),
  )
