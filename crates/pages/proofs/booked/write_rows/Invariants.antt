use Rattle.std.proofs.Common.{◌≡◌, ◌++◌, drop}
use Rattle.std.specs.String.{string_bytes}
use Rattle.pages.specs.Pages.{row_lines}
use Rattle.pages.specs.Rows.{rows_in}
use Rattle.pages.proofs.booked.write_rows.Given as goal

abbrev pub invariant-loop-row : goal.invariant-loop-row
invariant-loop-row g l = string_bytes l.out ++ row_lines l.ledger.state.names (drop l.row-index (rows_in l.book)) ≡ string_bytes l.initial.out ++ row_lines l.ledger.state.names (rows_in l.book)
