use Rattle.std.proofs.Common.{refl}
use Rattle.books.specs.Calls.{beginning}
use Rattle.books.specs.declared.outcome.Outcome.TheVariants.{Begun}
use Rattle.books.specs.Refusals.{beginning_tests}
use Rattle.ledger.proofs.Answering.{call_refused}
use Rattle.ledger.proofs.Ledger.begin.Goals as goal

pub returns-in_err-reported : goal.returns-in_err-reported
returns-in_err-reported g c =
    let a = c.args in
    let ts = beginning_tests a.self.now.state a.date in
    call_refused g.P.Policy.order a.self.now (beginning a.source a.date a.flag) a.source ts refl (λ slip. Begun slip.number) _ _ c.check_beginning.ensures c.in_err-reported.ensures c.from_residual.ensures.1
