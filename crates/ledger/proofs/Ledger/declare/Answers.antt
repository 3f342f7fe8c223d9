use Rattle.std.proofs.Common.{refl}
use Rattle.books.specs.Calls.{declaring}
use Rattle.books.specs.declared.outcome.Outcome.TheVariants.{Declared}
use Rattle.books.specs.Refusals.{declaring_tests}
use Rattle.ledger.proofs.Answering.{call_refused}
use Rattle.ledger.proofs.Ledger.declare.Goals as goal

pub returns-in_err-reported : goal.returns-in_err-reported
returns-in_err-reported g c =
    let a = c.args in
    let ts = declaring_tests a.self.now.state a.date a.name.now in
    call_refused g.P.Policy.order a.self.now (declaring a.source a.date a.name.now) a.source ts refl Declared _ _ c.check_declaring.ensures.checked c.in_err-reported.ensures c.from_residual.ensures.1
