use Rattle.std.proofs.Common.{arith}
use Rattle.books.specs.Calls.{writing_header}
use Rattle.books.proofs.Lending.{lent_call}
use Rattle.ledger.proofs.Ledger.perform_header.Goals as goal

pub returns-clause-book : goal.returns-clause-book
returns-clause-book g c =
    let a = c.args in
    lent_call (g.P.Policy.order a.self.now.policy) a.self.now.state a.book.now a.lent (λ lent. writing_header lent) (λ k. omega arith) c.min-lent.ensures c.write_header.ensures.book
