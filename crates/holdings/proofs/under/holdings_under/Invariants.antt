use Rattle.std.proofs.Common.{◌≡◌, ◌+◌, ◌*◌, ◌≤◌, length, ◌+ℤ◌, nat_abs}
use Rattle.std.specs.Slice.Iter.{iter_rest}
use Rattle.books.specs.Holdings.{holdings_under}
use Rattle.holdings.specs.Bounds.{largest_holding}
use Rattle.holdings.specs.Pairs.{books_of}
use Rattle.holdings.proofs.under.holdings_under.Given as goal

-- what is left to add gives the rest, and the sum has grown by at most a holding a turn
abbrev pub invariant-loop-number : goal.invariant-loop-number
invariant-loop-number l =
    (l.sum +ℤ holdings_under (books_of l.balances l.lots) l.name l.commodity l.number-iterator.a.start (iter_rest l.number-iterator.b) ≡ holdings_under (books_of l.balances l.lots) l.name l.commodity 1 l.chart.accounts)
    × (nat_abs l.sum + largest_holding ≤ largest_holding * l.number-iterator.a.start) × (l.number-iterator.a.start + length (iter_rest l.number-iterator.b) ≡ 1 + length l.chart.accounts)
