use Rattle.std.proofs.Common.{◌≤◌, length}
use Rattle.matching.specs.Matching.{matches}
use Rattle.stock.proofs.Draws.{UnderWay}
use Rattle.stock.proofs.table.LotTable.draw.Given as goal

abbrev pub invariant-loop-draw : goal.invariant-loop-draw
invariant-loop-draw g l =
    UnderWay (matches l.asked.wanted) ((g.P.Policy.order l.asked.policy.now).before l.asked.units) l.asked.units l.fn.self l.self l.draws l.left × (length l.draws ≤ 256)

abbrev pub decreases-loop-draw : goal.decreases-loop-draw
decreases-loop-draw g l = l.left
