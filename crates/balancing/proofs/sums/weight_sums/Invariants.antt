use Rattle.std.proofs.Common.{◌≡◌, ℕ, ◌≤◌, drop, get_or, pos, ◌+ℤ◌}
use Rattle.booking.specs.Limits.{most_commodities}
use Rattle.booking.specs.Weighing.{weight_sum}
use Rattle.balancing.specs.Bounds.{Near}
use Rattle.balancing.proofs.sums.weight_sums.Given as goal

abbrev pub invariant-loop-entry : goal.invariant-loop-entry
invariant-loop-entry l =
    ((c : ℕ) → c ≤ most_commodities → get_or l.sums c (pos 0) +ℤ weight_sum (drop l.entry-index l.entries) c ≡ weight_sum l.entries c) × Near l.sums l.entry-index
