use Rattle.std.proofs.Common.{rules}
use Rattle.holdings.proofs.account.is_empty_account.Goals as goal

pub returns-then-not-has_lot : goal.returns-then-not-has_lot
returns-then-not-has_lot c = let e = c.no_plain_balance.ensures c.args.lots.now in search rules
