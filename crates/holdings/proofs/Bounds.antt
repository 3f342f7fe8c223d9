-- The units of open lots are few enough.
use Rattle.std.proofs.Common.{◌≡◌, ◌*◌, ◌≤◌, Bool, true, List, [], ◌∷◌, length, arith}
use Rattle.std.specs.List.{AllByRecursion}
use Rattle.std.proofs.lemmas.Bool.Decides.{nat_tests}
use Rattle.lots.specs.declared.rows.LotRow.{LotRow}
use Rattle.lots.specs.Rows.{most, in_range}
use Rattle.matching.specs.Matching.{units_matching}
use Rattle.stock.specs.Tables.{Table}
use Rattle.stock.specs.Kept.{WellKept}
use Rattle.holdings.specs.Bounds.{most_in_lots}

units_within : (M : LotRow → Bool) (lots : List LotRow) → AllByRecursion (λ r. in_range r ≡ true) lots → units_matching M lots ≤ most * length lots
units_within M [] ranges = omega arith
units_within M (r ∷ rs) ranges = let ih = units_within M rs ranges.1 in let here = ranges.0 in grind (arith, nat_tests)

pub kept_few : (M : LotRow → Bool) (t : Table) → WellKept t → units_matching M t.lots ≤ most_in_lots
kept_few M t kept = omega (arith, units_within M t.lots kept.ranges, kept.at_most)
