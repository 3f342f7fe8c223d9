use Rattle.std.proofs.Common.{◌≡◌, [], ◌∷◌, ◌++◌, ◌∙◌, rules}
use Rattle.matching.specs.Matching.{matches}
use Rattle.stock.proofs.Draws.{taken, finished}
use Rattle.stock.proofs.table.LotTable.draw.Goals as goal

pub loop-draw-preserved : goal.loop-draw-preserved
loop-draw-preserved g c =
    let asked = c.args.asked.now in
    let l = c.loop-draw in
    let d = c.in-Some.draw in
    let t = c.in-Some.ensures.taken in
    let pushed : c.push.new.self ≡ l.draws ++ d ∷ [] = search rules in
    (rw pushed (taken (g.P.Policy.order asked.policy.now) (g.met.P.Policy.keeps asked.policy.now) (matches asked.wanted) asked.units c.args.self.now l.self l.draws l.left c.take.ensures.kept.0 l.invariant.0 t.0 t.1.0 t.1.1 d c.take.new.self t.1.2), c.push.ensures.within.1)

pub returns : goal.returns
returns g c =
    let asked = c.args.asked.now in
    let l = c.loop-draw in
    let t = c.in_default.ensures.taken in
    let end = finished (g.P.Policy.order asked.policy.now) (g.met.P.Policy.keeps asked.policy.now) (matches asked.wanted) asked.units c.args.self.now l.self l.draws l.left c.take.ensures.kept.0 l.invariant.0 t.0 in
    record { drawn = end.0; after = t.1 ∙ end.1; in_range = l.invariant.0.in_range; grows_by_one = rw t.1 l.invariant.0.room; few = l.invariant.1; kept = c.take.ensures.kept.1 }
