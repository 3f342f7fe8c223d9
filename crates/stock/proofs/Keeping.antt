-- What keeps so what always holds of the open lots.
use Rattle.std.proofs.Common.{◌≡◌, ℕ, suc, ◌+◌, ◌-◌, ◌<◌, ◌≤◌, true, List, [], ◌∷◌, ◌++◌, length, get_or, take, drop, set, Some, sym, ap, ◌∙◌, subst, arith}
use Rattle.std.specs.List.{remove, AllByRecursion}
use Rattle.std.proofs.ByRecursion.{All-weaker, All-push}
use Rattle.std.proofs.lemmas.Bool.Decides.{nat_tests}
use Rattle.std.proofs.lemmas.List.{length_push}
use Rattle.lots.specs.declared.rows.Key.{Key}
use Rattle.lots.specs.declared.rows.LotRow.{LotRow}
use Rattle.lots.specs.Rows.{in_range, same_key, no_lot, with_units, with_fewer, with_more, grown, shrunk}
use Rattle.matching.proofs.Splits.{split_at, set_at, length_split, all_here, all_without, all_replaced, pairs_without, pairs_replaced, pairs_push}
use Rattle.stock.specs.Tables.{Table}
use Rattle.stock.specs.Kept.{WellKept}

-- keys
pub key_same : (a b : Key) → same_key a b ≡ true → a ≡ b
key_same a b e = grind (arith, nat_tests)

pub key_itself : (k : Key) → same_key k k ≡ true
key_itself k = grind (arith, nat_tests)

-- each lot has some units
pub some_units : (lots : List LotRow) → AllByRecursion (λ r. in_range r ≡ true) lots → AllByRecursion (λ r. 1 ≤ r.units) lots
some_units lots all = All-weaker (λ r. in_range r ≡ true) (λ r. 1 ≤ r.units) (λ r e. grind (arith, nat_tests)) lots all

-- a lot is gone
pub kept_without : (ys : List LotRow) (x : LotRow) (zs : List LotRow) (next : ℕ) → WellKept (record { lots = ys ++ x ∷ zs; next = next }) → WellKept (record { lots = ys ++ zs; next = next })
kept_without ys x zs next w = record {
  at_most = omega (arith, length_split ys x zs, w.at_most);
  ranges = all_without (λ r. in_range r ≡ true) ys x zs w.ranges;
  from_one = w.from_one;
  serials_given = all_without (λ r. (1 ≤ r.serial) × (r.serial < next)) ys x zs w.serials_given;
  serials_rise = pairs_without (λ r s. r.serial < s.serial) ys x zs w.serials_rise;
  keys_differ = pairs_without (λ r s. r.key ≡ s.key → ⊥) ys x zs w.keys_differ;
}

-- a lot has other units
pub kept_replaced : (ys : List LotRow) (x : LotRow) (n : ℕ) (zs : List LotRow) (next : ℕ) → in_range (with_units x n) ≡ true → WellKept (record { lots = ys ++ x ∷ zs; next = next }) → WellKept (record { lots = ys ++ with_units x n ∷ zs; next = next })
kept_replaced ys x n zs next good w = record {
  at_most = omega (arith, length_split ys x zs, length_split ys (with_units x n) zs, w.at_most);
  ranges = all_replaced (λ r. in_range r ≡ true) ys x (with_units x n) zs good w.ranges;
  from_one = w.from_one;
  serials_given = all_replaced (λ r. (1 ≤ r.serial) × (r.serial < next)) ys x (with_units x n) zs (all_here (λ r. (1 ≤ r.serial) × (r.serial < next)) ys x zs w.serials_given) w.serials_given;
  serials_rise = pairs_replaced (λ r s. r.serial < s.serial) ys x (with_units x n) zs (λ r l. l) (λ r l. l) w.serials_rise;
  keys_differ = pairs_replaced (λ r s. r.key ≡ s.key → ⊥) ys x (with_units x n) zs (λ r ne. ne) (λ r ne. ne) w.keys_differ;
}

-- a lot is opened
pub kept_pushed : (lots : List LotRow) (x : LotRow) → length lots < 256 → in_range x ≡ true → AllByRecursion (λ r. r.key ≡ x.key → ⊥) lots → WellKept (record { lots = lots; next = x.serial }) → WellKept (record { lots = lots ++ x ∷ []; next = x.serial + 1 })
kept_pushed lots x room good others w =
    let low = w.from_one in
    record {
      at_most = omega (arith, length_push lots x);
      ranges = All-push (λ r. in_range r ≡ true) lots x w.ranges good;
      from_one = omega arith;
      serials_given = All-push (λ r. (1 ≤ r.serial) × (r.serial < x.serial + 1)) lots x (All-weaker (λ r. (1 ≤ r.serial) × (r.serial < x.serial)) (λ r. (1 ≤ r.serial) × (r.serial < x.serial + 1)) (λ r g. let l = g.1 in (g.0, omega arith)) lots w.serials_given) (low, omega arith);
      serials_rise = pairs_push (λ r s. r.serial < s.serial) lots x (All-weaker (λ r. (1 ≤ r.serial) × (r.serial < x.serial)) (λ r. r.serial < x.serial) (λ r g. g.1) lots w.serials_given) w.serials_rise;
      keys_differ = pairs_push (λ r s. r.key ≡ s.key → ⊥) lots x others w.keys_differ;
    }

-- by place
pub kept_set : (t : Table) (i n : ℕ) (y : LotRow) → i < length t.lots → y ≡ with_units (get_or t.lots i no_lot) n → in_range y ≡ true → WellKept t → WellKept (record { lots = set t.lots i y; next = t.next })
kept_set t i n y h e good w =
    let ys = take i t.lots in
    let x = get_or t.lots i no_lot in
    let zs = drop (suc i) t.lots in
    let good_x = subst (λ (r : LotRow). in_range r ≡ true) e good in
    let replaced : set t.lots i y ≡ ys ++ with_units x n ∷ zs = set_at t.lots i y h ∙ ap (λ (r : LotRow). ys ++ r ∷ zs) e in
    subst (λ (rs : List LotRow). WellKept (record { lots = rs; next = t.next })) (sym replaced)
    (kept_replaced ys x n zs t.next good_x (subst (λ (rs : List LotRow). WellKept (record { lots = rs; next = t.next })) (split_at t.lots i no_lot h) w))

pub kept_removed : (t : Table) (i : ℕ) → i < length t.lots → WellKept t → WellKept (record { lots = remove t.lots i; next = t.next })
kept_removed t i h w =
    kept_without (take i t.lots) (get_or t.lots i no_lot) (drop (suc i) t.lots) t.next
    (subst (λ (rs : List LotRow). WellKept (record { lots = rs; next = t.next })) (split_at t.lots i no_lot h) w)

-- what a lot that has grown or shrunk is, and the table once it is put in its place
pub grown_some : (r y : LotRow) (n : ℕ) → Some y ≡ grown r n → y ≡ with_more r n
grown_some r y n e = grind (arith, nat_tests)

pub kept_grown : (t : Table) (i n : ℕ) (y : LotRow) (rows : List LotRow) → rows ≡ set t.lots i y → i < length t.lots → Some y ≡ grown (get_or t.lots i no_lot) n → in_range y ≡ true → WellKept t → WellKept (record { lots = rows; next = t.next })
kept_grown t i n y rows e h some good w =
    let x = get_or t.lots i no_lot in
    rw e (kept_set t i (x.units + n) y h (grown_some x y n some) good w)

pub shrunk_some : (r y : LotRow) (n : ℕ) → Some y ≡ shrunk r n → (y ≡ with_fewer r n) × (n < r.units)
shrunk_some r y n e = (grind (arith, nat_tests), grind (arith, nat_tests))

pub kept_shrunk : (t : Table) (i n : ℕ) (y : LotRow) (rows : List LotRow) → rows ≡ set t.lots i y → i < length t.lots → Some y ≡ shrunk (get_or t.lots i no_lot) n → in_range y ≡ true → WellKept t → WellKept (record { lots = rows; next = t.next })
kept_shrunk t i n y rows e h some good w =
    let x = get_or t.lots i no_lot in
    rw e (kept_set t i (x.units - n) y h (shrunk_some x y n some).0 good w)
