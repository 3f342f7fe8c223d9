use Rattle.std.proofs.Common.{ℕ, refl, ap}
use Rattle.books.specs.Calls.{closing}
use Rattle.books.specs.Changes.{with_names, with_account_closed}
use Rattle.books.specs.declared.outcome.Outcome.TheVariants.{Done}
use Rattle.books.specs.Refusals.{closing_tests}
use Rattle.ledger.proofs.Answering.{call_refused, call_accepted}
use Rattle.ledger.proofs.Ledger.close.Goals as goal

pub returns-in_err-number : goal.returns-in_err-number
returns-in_err-number g c =
    let a = c.args in
    let ts = closing_tests a.self.now.state a.date a.account.now in
    call_refused g.P.Policy.order a.self.now (closing a.source a.date a.account.now) a.source ts refl (λ _. Done) _ _ c.check_closing.ensures c.in_err-number.ensures c.from_residual.ensures.1

pub returns : goal.returns
returns g c =
    let a = c.args in
    let s = a.self.now.state in
    let ts = closing_tests s a.date a.account.now in
    call_accepted g.P.Policy.order a.self.now (closing a.source a.date a.account.now) a.source ts refl _ c.check_closing.ensures c.in_ok-number.ensures refl c.close_account.ensures (ap (λ (number : ℕ). with_names s (with_account_closed s.names number) a.date 3))
