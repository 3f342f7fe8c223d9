use Rattle.std.proofs.Common.{◌≡◌, ◌+◌, ◌*◌, ◌≤◌, length}
use Rattle.lines.specs.Lines.{lines_of}
use Rattle.journals.proofs.most_outcomes.Given as goal

abbrev pub invariant-loop-cut : goal.invariant-loop-cut
invariant-loop-cut l = (l.most + 2 * length (lines_of l.rest) ≡ 2 * length (lines_of l.journal) + 1) × (l.most + 2 * length l.rest ≤ 2 * length l.journal + 1)

abbrev pub decreases-loop-cut : goal.decreases-loop-cut
decreases-loop-cut l = length l.rest
