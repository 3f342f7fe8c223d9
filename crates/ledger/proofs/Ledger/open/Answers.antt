use Rattle.std.proofs.Common.{refl, ap, option_map, arith}
use Rattle.std.proofs.lemmas.Grind.{common_steps}
use Rattle.books.specs.Calls.{opening}
use Rattle.books.specs.declared.outcome.Outcome.TheVariants.{Opened}
use Rattle.books.specs.Refusals.{opening_tests}
use Rattle.ledger.proofs.Answering.{call_refused, call_accepted}
use Rattle.ledger.proofs.Ledger.open.Goals as goal

pub returns-in_err-own : goal.returns-in_err-own
returns-in_err-own g c =
    let a = c.args in
    let s = a.self.now.state in
    let own = option_map (λ n. n.now) a.own in
    let ts = opening_tests s a.date a.name.now own in
    call_refused g.P.Policy.order a.self.now (opening a.source a.date a.name.now own) a.source ts refl Opened _ _ c.check_opening.ensures.checked c.in_err-own.ensures c.from_residual.ensures.1

pub returns : goal.returns
returns g c =
    let a = c.args in
    let s = a.self.now.state in
    let own = option_map (λ n. n.now) a.own in
    let ts = opening_tests s a.date a.name.now own in
    call_accepted g.P.Policy.order a.self.now (opening a.source a.date a.name.now own) a.source ts refl _ c.check_opening.ensures.checked c.in_ok-own.ensures (ap Opened c.add_account.ensures.number) c.add_account.ensures.named (λ e. grind (arith, common_steps, e))
