-- Which lots a reduction means. A test M of lots stands for "matches" in what follows.
use Rattle.std.specs.Prelude.{ℕ, Bool, true, cond, ◌&&◌, List, Some, None, Option, ◌==◌}
use Rattle.lots.specs.declared.rows.Cost.{Cost}
use Rattle.lots.specs.declared.rows.Key.{Key}
use Rattle.lots.specs.declared.rows.LotRow.{LotRow}
use Rattle.lots.specs.Rows.{same_cost}
use Rattle.matching.specs.declared.wanted.Wanted.{Wanted}
use Rattle.matching.specs.Sums.{sum_of}

abbrev pub cost_agrees : Option Cost → Key → Bool
cost_agrees None k = true
cost_agrees (Some c) k = same_cost k.cost c

abbrev pub date_agrees : Option ℕ → Key → Bool
date_agrees None k = true
date_agrees (Some d) k = k.date == d

-- account, commodity and each part given in the braces agree
abbrev pub matches : Wanted → LotRow → Bool
matches w r = r.key.account == w.account && (r.key.commodity == w.commodity && (cost_agrees w.cost r.key && date_agrees w.date r.key))

abbrev pub units_if : (LotRow → Bool) → LotRow → ℕ
units_if M r = cond (M r) r.units 0

-- the units of the lots that match
abbrev pub units_matching : (LotRow → Bool) → List LotRow → ℕ
units_matching M lots = sum_of (units_if M) lots

-- how many match
abbrev pub lots_matching : (LotRow → Bool) → List LotRow → ℕ
lots_matching M lots = sum_of (λ r. cond (M r) 1 0) lots
