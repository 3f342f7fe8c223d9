use Rattle.std.proofs.Common.{length}
use Rattle.reader.specs.Readings.{steps_left}
use Rattle.journals.proofs.UnderWay.{UnderWay}
use Rattle.journals.proofs.read_lines.Given as goal

abbrev pub invariant-loop-reader : goal.invariant-loop-reader
invariant-loop-reader g l = UnderWay g.P.Policy.order l.fn.ledger l.fn.journal l.fn.book l.fn.answers l.ledger l.reader.phase l.reader.rest.now l.reader.number l.book l.answers l.count l.slip

abbrev pub decreases-loop-reader : goal.decreases-loop-reader
decreases-loop-reader g l = steps_left l.reader.phase (length l.reader.rest.now)
