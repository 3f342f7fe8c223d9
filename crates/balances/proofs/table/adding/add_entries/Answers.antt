use Rattle.std.proofs.Common.{rules}
use Rattle.std.proofs.lemmas.List.{at_drop_more}
use Rattle.booking.proofs.Blanks.{no_entry}
use Rattle.booking.specs.Balances.{balances_after}
use Rattle.balances.proofs.table.adding.add_entries.Goals as goal

pub loop-entry-preserved : goal.loop-entry-preserved
loop-entry-preserved c = (
  search (rules, at_drop_more (balances_after c.loop-entry.places) c.args.entries.now c.loop-entry.entry-index no_entry),
  c.add_kind.ensures.near c.loop-entry.entry-index c.loop-entry.invariant.1,
)
