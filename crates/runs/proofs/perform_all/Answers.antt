use Rattle.std.proofs.Common.{arith}
use Rattle.runs.proofs.UnderWay.{went_on, went_all}
use Rattle.runs.proofs.perform_all.Goals as goal

pub loop-i-preserved : goal.loop-i-preserved
loop-i-preserved g c =
    let a = c.args in
    went_on g.P.Policy.order a.calls.now a.ledger.now a.book.now a.answers.now _ c.loop-i.invariant c.loop-i-test.true (omega arith) c.loop-i.auto.book c.perform.ensures.answer c.perform.ensures.book

pub returns : goal.returns
returns g c =
    let a = c.args in
    let all = went_all g.P.Policy.order a.calls.now a.ledger.now a.book.now a.answers.now c.loop-i.invariant (omega arith) in
    record { outcomes = all.0; ledger = all.1.0; book = all.1.1 }
