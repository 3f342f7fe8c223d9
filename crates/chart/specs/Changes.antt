-- What the chart's functions make of names, whatever they are given: these are steps of the program, and what they come to for names
-- that are allowed stands in the words of `books`.
use Rattle.std.specs.Prelude.{ℕ, ◌≤◌, true, cond, List, [], ◌∷◌, ◌++◌, length, take, Option, nat_le}
use Rattle.booking.specs.Limits.{most_commodities, most_accounts}
use Rattle.books.specs.States.{Names}

-- what a chart has room for
abbrev pub WithinLimits : Names → Type 0
WithinLimits k = (length k.commodities ≤ most_commodities) × (length k.accounts ≤ most_accounts)

-- one more at the end, unless there are n
abbrev pub push_below : {X : Type 0} → ℕ → List X → X → List X
push_below n xs x = cond (nat_le n (length xs)) xs (xs ++ (x ∷ []))

-- a name is kept up to its 48th byte; none that is allowed is longer
abbrev pub with_commodity : List ℕ → Names → Names
with_commodity name k = record { commodities = push_below most_commodities k.commodities (take 48 name); accounts = k.accounts }

abbrev pub with_account : List ℕ → Option ℕ → Names → Names
with_account name own k = record { commodities = k.commodities; accounts = push_below most_accounts k.accounts (record { name = take 48 name; own = own; is_open = true }) }
