-- How large a holding can be.
use Rattle.std.specs.Prelude.{ℕ, ◌+◌, ◌*◌}
use Rattle.lots.specs.Rows.{most}
use Rattle.stock.specs.Tables.{most_lots}
use Rattle.booking.specs.Balances.{largest_balance}

-- the units of as many lots as can be open
abbrev pub most_in_lots : ℕ
most_in_lots = most_lots * most

abbrev pub largest_holding : ℕ
largest_holding = largest_balance + most_in_lots
