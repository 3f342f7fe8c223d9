-- The open lots, and what a purchase and a reduction answer and leave.
-- Each has three parts: the refusals that it can meet, in their order, of which the first is answered; what an accepted one leaves;
-- what it answers.
use Rattle.std.specs.Prelude.{ℕ, ◌+◌, Bool, false, cond, not, ◌&&◌, ◌||◌, List, [], ◌∷◌, length, Some, None, Ok, Err, Option, Result, ◌==◌, nat_le, nat_lt}
use Rattle.std.specs.List.{find}
use Rattle.refusal.specs.declared.Refusal.{Refusal}
use Rattle.refusal.specs.declared.Refusal.TheVariants.{LotTooLarge, TooFewUnits, NotSettledByPolicy, TooManyLots}
use Rattle.refusal.specs.Refusing.{first_met}
use Rattle.lots.specs.declared.rows.Key.{Key}
use Rattle.lots.specs.declared.rows.LotRow.{LotRow}
use Rattle.lots.specs.Rows.{most, same_key, with_more}
use Rattle.lots.specs.Orders.{Order}
use Rattle.matching.specs.declared.wanted.Wanted.{Wanted}
use Rattle.matching.specs.declared.wanted.Draw.{Draw}
use Rattle.matching.specs.Matching.{matches, units_matching}
use Rattle.matching.specs.Drawing.{settled, draws_of, lots_after}

-- the open lots in the order of their serials, and the serial of the lot that is opened next
pub record Table : Type 0 where
  pub lots : List LotRow
  pub next : ℕ

-- the most lots that are open at a time
abbrev pub most_lots : ℕ
most_lots = 256

-- no lot bears it, since no serial follows it
abbrev pub last_serial : ℕ
last_serial = 4294967295

abbrev pub no_lots : Table
no_lots = record { lots = []; next = 1 }

abbrev pub lot_of_serial : ℕ → List LotRow → Option LotRow
lot_of_serial n lots = find (λ r. r.serial == n) lots

-- what a call answers and leaves: refused, it changes nothing
abbrev pub answered : {X : Type 0} → Option Refusal → X → Table → Table → Result X Refusal × Table
answered None reply after t = (Ok reply, after)
answered (Some refusal) reply after t = (Err refusal, t)

-- Purchases.

abbrev pub of_key : Key → LotRow → Bool
of_key k r = same_key r.key k

abbrev pub is_open : Key → List LotRow → Bool
is_open k [] = false
is_open k (r ∷ rs) = of_key k r || is_open k rs

-- the units held of a key
abbrev pub units_of_key : Key → List LotRow → ℕ
units_of_key k lots = units_matching (of_key k) lots

-- n units are added to the open lot of their key, or open one under the next serial
abbrev pub add_units : Key → ℕ → ℕ → List LotRow → List LotRow
add_units k n next [] = record { key = k; units = n; serial = next } ∷ []
add_units k n next (r ∷ rs) = cond (of_key k r) (with_more r n ∷ rs) (r ∷ add_units k n next rs)

-- the serial of the lot that they come to
abbrev pub serial_for : Key → ℕ → List LotRow → ℕ
serial_for k next [] = next
serial_for k next (r ∷ rs) = cond (of_key k r) r.serial (serial_for k next rs)

-- 21: the lot would pass the most units of a lot; 24: a new lot is needed and no more can be open
abbrev pub purchase_tests : Key → ℕ → Table → List (Refusal × Bool)
purchase_tests k n t =
    (LotTooLarge, nat_lt most (units_of_key k t.lots + n))
    ∷ (TooManyLots, not (is_open k t.lots) && nat_le most_lots (length t.lots))
    ∷ []

abbrev pub purchase_refusal : Key → ℕ → Table → Option Refusal
purchase_refusal k n t = first_met (purchase_tests k n t)

abbrev pub table_after_purchase : Key → ℕ → Table → Table
table_after_purchase k n t = record { lots = add_units k n t.next t.lots; next = cond (is_open k t.lots) t.next (t.next + 1) }

abbrev pub purchased : Key → ℕ → Table → Result ℕ Refusal × Table
purchased k n t = answered (purchase_refusal k n t) (serial_for k t.next t.lots) (table_after_purchase k n t) t

-- once the serials are used up, a purchase that needs a new lot is refused 24
abbrev pub purchased_late : Key → ℕ → Table → Result ℕ Refusal × Table
purchased_late k n t = cond (is_open k t.lots) (purchased k n t) (Err TooManyLots, t)

-- Reductions.

-- 22: the matching lots hold less than u; 23: the policy does not settle
abbrev pub reduction_tests : Order → Wanted → ℕ → Table → List (Refusal × Bool)
reduction_tests o w u t =
    (TooFewUnits, nat_lt (units_matching (matches w) t.lots) u)
    ∷ (NotSettledByPolicy, not (settled o (matches w) u t.lots))
    ∷ []

abbrev pub reduction_refusal : Order → Wanted → ℕ → Table → Option Refusal
reduction_refusal o w u t = first_met (reduction_tests o w u t)

abbrev pub table_after_reduction : Order → Wanted → ℕ → Table → Table
table_after_reduction o w u t = record { lots = lots_after o w u t.lots; next = t.next }

abbrev pub reduced : Order → Wanted → ℕ → Table → Result (List Draw) Refusal × Table
reduced o w u t = answered (reduction_refusal o w u t) (draws_of o w u t.lots) (table_after_reduction o w u t) t
