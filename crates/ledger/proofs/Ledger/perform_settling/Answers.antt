use Rattle.std.proofs.Common.{arith}
use Rattle.books.specs.Calls.{settling}
use Rattle.books.proofs.Lending.{lent_call}
use Rattle.ledger.proofs.Ledger.perform_settling.Goals as goal

pub returns-in-Ok-clause-book : goal.returns-in-Ok-clause-book
returns-in-Ok-clause-book g c =
    let a = c.args in
    lent_call (g.P.Policy.order a.self.now.policy) a.self.now.state a.book.now a.lent (λ lent. settling c.args.slip lent) (λ k. omega arith) c.min-lent.ensures c.settle.ensures.book
