use Rattle.std.proofs.Common.{◌≡◌, ◌+◌, ◌++◌, drop}
use Rattle.std.specs.String.{string_bytes}
use Rattle.pages.specs.Pages.{holding_lines}
use Rattle.pages.proofs.booked.write_holdings.Given as goal

abbrev pub invariant-loop-place : goal.invariant-loop-place
invariant-loop-place g l =
    string_bytes l.out ++ holding_lines l.ledger.state (l.place + 1) (drop l.place l.ledger.state.names.accounts) ≡ string_bytes l.initial.out ++ holding_lines l.ledger.state 1 l.ledger.state.names.accounts
