use Rattle.std.proofs.Common.{◌≡◌, drop}
use Rattle.booking.specs.Balances.{balances_after}
use Rattle.balances.specs.Bounds.{Near}
use Rattle.balances.proofs.table.adding.add_entries.Given as goal

abbrev pub invariant-loop-entry : goal.invariant-loop-entry
invariant-loop-entry l = (balances_after l.places (drop l.entry-index l.entries) ≡ balances_after l.initial.places l.entries) × Near l.places l.entry-index
