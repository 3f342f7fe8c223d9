use Rattle.std.proofs.Common.{arith, rules}
use Rattle.booking.specs.Stages.{book_postings}
use Rattle.booking.proofs.Drafts.{booked_more, booked_refused}
use Rattle.booking.proofs.booked.Booked.book_postings.Goals as goal

pub loop-posting-preserved : goal.loop-posting-preserved
loop-posting-preserved g c =
    let o = g.P.Policy.order c.args.policy.now in
    let l = c.loop-posting in
    let ps = c.args.postings.now in
    let grown = c.in_ok-book_posting.ensures.grows in
    let entered = c.in_ok-book_posting.ensures.entered in
    let room = l.invariant.1 in
    let serials = l.invariant.2 in
    let entries = l.invariant.3 in (
      booked_more o c.args.day l.self ps l.posting-index c.loop-posting-test.true (book_postings o c.args.day c.args.self.now ps) l.invariant.0 c.book_posting.new.self c.in_ok-book_posting.ensures.defined,
      omega arith,
      omega arith,
      omega arith,
      λ k. c.book_posting.ensures.keeps (l.invariant.4 k),
    )

pub returns-in_err-book_posting-clause-defined : goal.returns-in_err-book_posting-clause-defined
returns-in_err-book_posting-clause-defined g c =
    let o = g.P.Policy.order c.args.policy.now in
    let l = c.loop-posting in
    let ps = c.args.postings.now in
    let refused = booked_refused o c.args.day l.self ps l.posting-index c.loop-posting-test.true (book_postings o c.args.day c.args.self.now ps) l.invariant.0 c.in_err-book_posting.ensures.defined in
    search rules
