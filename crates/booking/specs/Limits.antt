-- How much a ledger has room for. Commodities and accounts are counted from 1.
use Rattle.std.specs.Prelude.{ℕ, ◌+◌, ◌*◌}
use Rattle.stock.specs.Tables.{most_lots}

abbrev pub most_commodities : ℕ
most_commodities = 16

abbrev pub most_accounts : ℕ
most_accounts = 64

-- a plain balance of each account in each commodity
abbrev pub balance_count : ℕ
balance_count = most_accounts * most_commodities

abbrev pub most_postings : ℕ
most_postings = 16

-- what the postings of a draft give upon all lots: with each, entries and open lots together grow by at most 2
abbrev pub most_entries : ℕ
most_entries = most_lots + 2 * most_postings
