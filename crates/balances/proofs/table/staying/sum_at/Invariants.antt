use Rattle.std.proofs.Common.{◌≡◌, ◌*◌, ◌≤◌, drop, ◌+ℤ◌, unsigned_abs}
use Rattle.balances.specs.Sums.{sum_at}
use Rattle.balances.proofs.table.staying.sum_at.Given as goal

abbrev pub invariant-loop-entry : goal.invariant-loop-entry
invariant-loop-entry l = (l.sum +ℤ sum_at l.at (drop l.entry-index l.entries) ≡ sum_at l.at l.entries) × (unsigned_abs l.sum ≤ 2147483648 * l.entry-index)
