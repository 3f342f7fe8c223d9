use Rattle.std.proofs.Common.{arith}
use Rattle.std.proofs.lemmas.Grind.{common_steps}
use Rattle.books.specs.Given.{given_amount}
use Rattle.books.specs.Lookups.{commodity_number, number_or_0}
use Rattle.books.specs.Refusals.{if_given, cost_not_declared, account_tests}
use Rattle.ledger.proofs.Turns.{passed_before}
use Rattle.ledger.proofs.Ledger.number_commodities.Goals as goal

pub returns-clause-checked : goal.returns-clause-checked
returns-clause-checked g c =
    let a = c.args in
    let s = a.self.now.state in
    let x = given_amount a.amount in
    let n = number_or_0 (commodity_number s.names x.commodity) in
    let passed = passed_before (if_given (cost_not_declared s) x.braces) (account_tests s a.account.now n x) c.in_ok-cost.cost _ c.in_ok-cost.ensures.named in
    grind (arith, common_steps)
