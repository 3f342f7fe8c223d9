use Rattle.std.proofs.Common.{◌≡◌, map, length, take}
use Rattle.booking.specs.Rows.{row_of}
use Rattle.booking.proofs.entries.Entries.list_rows.Given as goal

abbrev pub invariant-loop-entry : goal.invariant-loop-entry
invariant-loop-entry l = (l.rows ≡ map (row_of l.transaction) (take l.entry-index l.self)) × (length l.rows ≡ l.entry-index)
