use Rattle.std.proofs.Common.{ℕ, rules}
use Rattle.std.proofs.lemmas.Iterator.Search.{all_from_yields_List}
use Rattle.booking.specs.Weighing.{is_zero}
use Rattle.booking.specs.Balances.{balance_in}
use Rattle.balancing.proofs.Ranges.{counted_down}
use borrow.Author.Tests.{tests}
use Rattle.holdings.proofs.account.no_plain_balance.Goals as goal

pub returns : goal.returns
returns c lots =
    let down = counted_down c.rev.result c.new.result 1 16 c.rev.ensures.source c.new.ensures.start c.new.ensures.end c.new.ensures.exhausted in
    all_from_yields_List (λ (n : ℕ). is_zero (balance_in c.args.balances.now c.args.account n)) _ _ c.all.result c.all.ensures.ran down (λ x b q k. search (rules, tests))
