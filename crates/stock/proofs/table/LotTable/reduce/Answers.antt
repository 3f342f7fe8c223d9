use Rattle.std.proofs.Common.{◌≤◌, ap, rules}
use Rattle.matching.specs.Matching.{matches, units_matching}
use Rattle.matching.proofs.Drawing.{closed_form_is_drawn}
use Rattle.stock.specs.Tables.{Table}
use Rattle.stock.proofs.Keeping.{some_units}
use Rattle.stock.proofs.table.LotTable.reduce.Goals as goal

pub returns-clause-draws_earliest_first : goal.returns-clause-draws_earliest_first
returns-clause-draws_earliest_first g c =
    let asked = c.args.asked.now in
    let u = asked.units in
    let o = g.P.Policy.order asked.policy.now in
    let keeps = g.met.P.Policy.keeps asked.policy.now in
    let M = matches asked.wanted in
    let lots = c.args.self.now.lots in
    let kept = c.lots.ensures.kept in
    let enough : u ≤ units_matching M lots = search rules in
    let left = ap (λ (t : Table). t.lots) c.draw.ensures.after in
    let drawn = closed_form_is_drawn M (o.before u) (keeps.irreflexive u) (keeps.transitive u) (keeps.exactly_one u) u lots kept.serials_rise (some_units lots kept.ranges) enough in
    (rw (c.draw.ensures.drawn, left) drawn, ap (λ (t : Table). t.next) c.draw.ensures.after)
