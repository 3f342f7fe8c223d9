use Rattle.runs.proofs.Standing.{run_lawful, run_recorded}
use Rattle.runs.proofs.run.Goals as goal

pub returns-clause-lawful : goal.returns-clause-lawful
returns-clause-lawful g c =
    let a = c.args in
    let all = c.perform_all in
    run_lawful g.P.Policy.order a.policy a.calls.now a.answers.now a.book.now (g.met.P.Policy.keeps a.policy) c.new-ledger.ensures c.min-places.ensures all.auto.answers all.ensures.outcomes all.ensures.ledger

pub returns-clause-recorded : goal.returns-clause-recorded
returns-clause-recorded g c =
    let a = c.args in
    let all = c.perform_all in
    run_recorded g.P.Policy.order a.policy a.calls.now a.answers.now a.book.now (g.met.P.Policy.keeps a.policy) c.new-ledger.ensures c.min-places.ensures all.auto.answers all.ensures.outcomes all.ensures.book
