use Rattle.std.proofs.Common.{◌≡◌, ◌+◌, ◌++◌, drop}
use Rattle.std.specs.String.{string_bytes}
use Rattle.pages.specs.Pages.{account_lines}
use Rattle.pages.proofs.booked.write_account.Given as goal

abbrev pub invariant-loop-place : goal.invariant-loop-place
invariant-loop-place g l =
    string_bytes l.out ++ account_lines l.ledger.state l.account (l.place + 1) (drop l.place l.ledger.state.names.commodities) ≡ string_bytes l.initial.out ++ account_lines l.ledger.state l.account 1 l.ledger.state.names.commodities
