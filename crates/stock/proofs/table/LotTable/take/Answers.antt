use Rattle.std.proofs.Common.{rules}
use Rattle.stock.proofs.Keeping.{kept_shrunk, kept_removed}
use Rattle.stock.proofs.table.LotTable.take.Goals as goal

pub invariant_of-self : goal.invariant_of-self
invariant_of-self g c =
    kept_shrunk (record { lots = c.self.inside.rows; next = c.self.inside.next }) c.in_ok-place.place c.args.left c.row.result c.put.new.self c.put.ensures.written (search rules) (search rules) c.row.ensures.ranges c.self.invariant

pub invariant_of-self-in-None : goal.invariant_of-self-in-None
invariant_of-self-in-None g c =
    rw c.remove.ensures.removed (kept_removed (record { lots = c.self.inside.rows; next = c.self.inside.next }) c.in_ok-place.place (search rules) c.self.invariant)

pub returns-in-Some-clause-kept : goal.returns-in-Some-clause-kept
returns-in-Some-clause-kept g c = (
  c.lots-rows.ensures.kept,
  kept_shrunk (record { lots = c.self.inside.rows; next = c.self.inside.next }) c.in_ok-place.place c.args.left c.row.result c.put.new.self c.put.ensures.written (search rules) (search rules) c.row.ensures.ranges c.self.invariant,
)

pub returns-in-None-clause-kept : goal.returns-in-None-clause-kept
returns-in-None-clause-kept g c = (
  c.lots-rows.ensures.kept,
  rw c.remove.ensures.removed (kept_removed (record { lots = c.self.inside.rows; next = c.self.inside.next }) c.in_ok-place.place (search rules) c.self.invariant),
)
