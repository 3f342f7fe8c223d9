-- What accounts hold.
use Rattle.std.specs.Prelude.{ℕ, zero, suc, ◌+◌, Bool, true, cond, not, ◌&&◌, List, [], ◌∷◌, ℤ, pos, ◌+ℤ◌, None, nat_eq}
use Rattle.std.specs.List.{list_any}
use Rattle.values.specs.Names.{lies_under}
use Rattle.matching.specs.Matching.{matches, units_matching}
use Rattle.booking.specs.Limits.{most_commodities}
use Rattle.booking.specs.Postings.{wanted_lots}
use Rattle.booking.specs.Weighing.{is_zero}
use Rattle.booking.specs.Balances.{balance_in}
use Rattle.books.specs.declared.account.Account.{Account}
use Rattle.books.specs.States.{Books}

-- the plain balance of an account in a commodity
abbrev pub plain_balance : Books → ℕ → ℕ → ℤ
plain_balance b a c = balance_in b.balances a c

-- the units of an account's open lots of a commodity
abbrev pub units_in_lots : Books → ℕ → ℕ → ℕ
units_in_lots b a c = units_matching (matches (wanted_lots a c None None)) b.table.lots

-- an account's holding: its plain balance and the units of its open lots
abbrev pub holding : Books → ℕ → ℕ → ℤ
holding b a c = plain_balance b a c +ℤ pos (units_in_lots b a c)

-- the holdings, in a commodity, of those accounts that lie under a name; the list is counted from n
abbrev pub holdings_under : Books → List ℕ → ℕ → ℕ → List Account → ℤ
holdings_under b name c n [] = pos 0
holdings_under b name c n (account ∷ accounts) = cond (lies_under account.name name) (holding b n c) (pos 0) +ℤ holdings_under b name c (n + 1) accounts

-- the plain balances of an account in the commodities 1 to n are 0
abbrev pub no_plain_balance : Books → ℕ → ℕ → Bool
no_plain_balance b a zero = true
no_plain_balance b a (suc c) = is_zero (plain_balance b a (suc c)) && no_plain_balance b a c

abbrev pub has_lot : Books → ℕ → Bool
has_lot b a = list_any (λ r. nat_eq r.key.account a) b.table.lots

-- no lot, and no plain balance but 0
abbrev pub is_empty_account : Books → ℕ → Bool
is_empty_account b a = not (has_lot b a) && no_plain_balance b a most_commodities
