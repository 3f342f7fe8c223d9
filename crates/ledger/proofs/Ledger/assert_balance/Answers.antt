use Rattle.std.proofs.Common.{refl, w32}
use Rattle.std.proofs.lemmas.Int.{to_z-of_z}
use Rattle.books.specs.Calls.{asserting}
use Rattle.books.specs.declared.outcome.Outcome.TheVariants.{Done}
use Rattle.books.specs.Refusals.{asserting_tests}
use Rattle.ledger.proofs.Answering.{call_refused, call_accepted}
use Rattle.ledger.proofs.Ledger.assert_balance.Goals as goal

pub returns-in_err-reported : goal.returns-in_err-reported
returns-in_err-reported g c =
    let a = c.args in
    let ts = asserting_tests a.self.now.state a.date a.account.now a.amount a.commodity.now in
    let checked = rw (to_z-of_z w32 a.amount c.ranges.amount) at c.check_asserting.ensures in
    call_refused g.P.Policy.order a.self.now (asserting a.source a.date a.account.now a.amount a.commodity.now) a.source ts refl (λ _. Done) _ _ checked c.in_err-reported.ensures c.from_residual.ensures.1

pub returns : goal.returns
returns g c =
    let a = c.args in
    let ts = asserting_tests a.self.now.state a.date a.account.now a.amount a.commodity.now in
    let checked = rw (to_z-of_z w32 a.amount c.ranges.amount) at c.check_asserting.ensures in
    call_accepted g.P.Policy.order a.self.now (asserting a.source a.date a.account.now a.amount a.commodity.now) a.source ts refl _ checked c.in_ok-reported.ensures refl c.accept.ensures (λ _. refl)
