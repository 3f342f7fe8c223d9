use Rattle.runs.proofs.UnderWay.{Going}
use Rattle.runs.proofs.perform_all.Given as goal

abbrev pub invariant-loop-i : goal.invariant-loop-i
invariant-loop-i g l = Going g.P.Policy.order l.calls l.fn.ledger l.fn.book l.fn.answers l.i l.ledger l.book l.answers
