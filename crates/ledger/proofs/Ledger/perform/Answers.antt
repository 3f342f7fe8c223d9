use Rattle.ledger.proofs.Answering.{answers_first}
use Rattle.ledger.proofs.Ledger.perform.Goals as goal

pub returns-clause-refused_exactly_where : goal.returns-clause-refused_exactly_where
returns-clause-refused_exactly_where g c = answers_first g.P.Policy.order c.args.self.now _ c.dispatch.ensures.answer
