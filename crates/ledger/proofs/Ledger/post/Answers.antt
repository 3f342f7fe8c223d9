use Rattle.std.proofs.Common.{refl, ap, option_map}
use Rattle.booking.specs.declared.posting.Posting.{Posting}
use Rattle.books.specs.Calls.{posting}
use Rattle.books.specs.Given.{given_amount}
use Rattle.books.specs.Changes.{with_draft, with_posting}
use Rattle.books.specs.Refusals.{posting_tests}
use Rattle.books.specs.declared.outcome.Outcome.TheVariants.{Done}
use Rattle.ledger.proofs.Answering.{call_refused, call_accepted}
use Rattle.ledger.proofs.Ledger.post.Goals as goal

pub returns-in_err-posting : goal.returns-in_err-posting
returns-in_err-posting g c =
    let a = c.args in
    let s = a.self.now.state in
    let amount = option_map given_amount a.amount in
    let ts = posting_tests s a.slip.now.number a.account.now amount in
    call_refused g.P.Policy.order a.self.now (posting a.slip.now.number a.source a.account.now amount) a.source ts refl (λ _. Done) _ _ c.check_posting-checked.ensures.checked c.in_err-posting.ensures c.from_residual.ensures.1

pub returns : goal.returns
returns g c =
    let a = c.args in
    let s = a.self.now.state in
    let amount = option_map given_amount a.amount in
    let ts = posting_tests s a.slip.now.number a.account.now amount in
    call_accepted g.P.Policy.order a.self.now (posting a.slip.now.number a.source a.account.now amount) a.source ts refl _ c.check_posting-checked.ensures.checked c.in_ok-posting.ensures refl c.join.ensures (ap (λ (p : Posting). with_draft s (option_map (with_posting p) s.draft)))
