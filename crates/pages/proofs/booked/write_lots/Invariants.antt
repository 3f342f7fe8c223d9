use Rattle.std.proofs.Common.{◌≡◌, ◌++◌, drop}
use Rattle.std.specs.String.{string_bytes}
use Rattle.pages.specs.Pages.{lot_lines}
use Rattle.pages.proofs.booked.write_lots.Given as goal

abbrev pub invariant-loop-lot : goal.invariant-loop-lot
invariant-loop-lot g l =
    string_bytes l.out ++ lot_lines l.ledger.state.names (drop l.lot-index l.ledger.state.books.table.lots) ≡ string_bytes l.initial.out ++ lot_lines l.ledger.state.names l.ledger.state.books.table.lots
