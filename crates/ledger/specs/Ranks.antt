-- The ranks of dated calls.
use Rattle.std.specs.Prelude.{ℕ}
use Rattle.ledger.specs.declared.rank.Rank.{Rank}
use Rattle.ledger.specs.declared.rank.Rank.TheVariants.{Naming, Asserting, Transacting, Closing}

abbrev pub rank_number : Rank → ℕ
rank_number Naming = 0
rank_number Asserting = 1
rank_number Transacting = 2
rank_number Closing = 3
