-- What always holds of the open lots and the next serial.
use Rattle.std.specs.Prelude.{◌≡◌, ◌<◌, ◌≤◌, true, List, length, ◌≢◌}
use Rattle.std.specs.List.{AllByRecursion}
use Rattle.lots.specs.declared.rows.LotRow.{LotRow}
use Rattle.lots.specs.Rows.{in_range}
use Rattle.matching.specs.Drawn.{AllPairs, SerialsRise}
use Rattle.stock.specs.Tables.{Table, most_lots}

-- open lots have different keys
abbrev pub KeysDiffer : List LotRow → Type 0
KeysDiffer lots = AllPairs (λ r s. r.key ≢ s.key) lots

pub record WellKept (t : Table) : Type 0 where
  pub at_most : length t.lots ≤ most_lots
  pub ranges : AllByRecursion (λ r. in_range r ≡ true) t.lots
  pub from_one : 1 ≤ t.next
  pub serials_given : AllByRecursion (λ r. (1 ≤ r.serial) × (r.serial < t.next)) t.lots
  pub serials_rise : SerialsRise t.lots
  pub keys_differ : KeysDiffer t.lots
