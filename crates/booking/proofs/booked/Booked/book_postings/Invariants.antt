use Rattle.std.proofs.Common.{◌≡◌, ◌+◌, ◌*◌, ◌≤◌, length, drop}
use Rattle.booking.specs.Stages.{book_postings, IsKept}
use Rattle.booking.proofs.booked.Booked.book_postings.Given as goal

abbrev pub invariant-loop-posting : goal.invariant-loop-posting
invariant-loop-posting g l =
    let o = g.P.Policy.order l.policy in
    (book_postings o l.day l.self (drop l.posting-index l.postings) ≡ book_postings o l.day l.initial.self l.postings)
    × (length l.self.1 + length l.self.0.lots ≤ 256 + 2 * l.posting-index)
    × (l.self.0.next + length l.initial.self.1 ≤ l.initial.self.0.next + length l.self.1)
    × (length l.initial.self.1 + l.posting-index ≤ length l.self.1)
    × (IsKept l.initial.self → IsKept l.self)
