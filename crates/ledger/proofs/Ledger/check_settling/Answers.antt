use Rattle.std.proofs.Common.{Some}
use Rattle.ledger.proofs.Planning.{passed_report, planned_where}
use Rattle.ledger.proofs.Ledger.check_settling.Goals as goal

pub returns-clause-planned : goal.returns-clause-planned
returns-clause-planned g c =
    let a = c.args in
    planned_where (g.P.Policy.order a.self.now.policy) a.self.now.state a.slip.now.number a.lent _ _ (passed_report 0 (λ d. Some d.now) _ c.in_ok-draft.ensures c.draft_of.ensures) c.plan.ensures.planned
