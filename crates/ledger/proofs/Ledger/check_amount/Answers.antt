use Rattle.std.proofs.Common.{arith, Some}
use Rattle.std.proofs.lemmas.Grind.{common_steps}
use Rattle.books.specs.Given.{given_amount}
use Rattle.books.specs.Changes.{posting_of}
use Rattle.books.specs.Refusals.{amount_fields, commodity_tests}
use Rattle.ledger.proofs.Turns.{refused_before}
use Rattle.ledger.proofs.Ledger.check_amount.Goals as goal

pub returns-in_err-check_amount-clause-checked : goal.returns-in_err-check_amount-clause-checked
returns-in_err-check_amount-clause-checked g c =
    let a = c.args in
    let s = a.self.now.state in
    let x = given_amount a.amount in
    let met = refused_before (amount_fields a.account.now x) (commodity_tests s a.account.now x) c.in_err-check_amount.field-0.0 _ (posting_of s.names a.source a.account.now (Some x)) c.in_err-check_amount.ensures.checked in
    grind (arith, common_steps)
