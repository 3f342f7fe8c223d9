-- Finding commodities and accounts by their names. `position_from test n` is the number of the first that passes, counted from n.
use Rattle.std.specs.Prelude.{ℕ, ◌-◌, Bool, false, ◌&&◌, List, [], length, Some, None, Option, nat_le, slice_index_or}
use Rattle.std.specs.List.{list_any, position_from}
use Rattle.std.specs.Option.{unwrap_or}
use Rattle.std.specs.Str.{bytes_eq}
use Rattle.values.specs.Names.{lies_under}
use Rattle.books.specs.declared.account.Account.{Account}
use Rattle.books.specs.States.{Names}

abbrev pub commodity_number : Names → List ℕ → Option ℕ
commodity_number k name = position_from (λ other. bytes_eq other name) 1 k.commodities

-- an account of this name that was opened, closed or not
abbrev pub account_number : Names → List ℕ → Option ℕ
account_number k name = position_from (λ account. bytes_eq account.name name) 1 k.accounts

-- one that is open
abbrev pub open_account : Names → List ℕ → Option ℕ
open_account k name = position_from (λ account. account.is_open && bytes_eq account.name name) 1 k.accounts

-- some account that lies under this name was opened, closed or not
abbrev pub any_under : Names → List ℕ → Bool
any_under k name = list_any (λ account. lies_under account.name name) k.accounts

-- the number, 0 where there is none
abbrev pub number_or_0 : Option ℕ → ℕ
number_or_0 n = unwrap_or n 0

abbrev pub no_account : Account
no_account = record { name = []; own = None; is_open = false }

-- the account of this number
abbrev pub account_at : Names → ℕ → Account
account_at k a = slice_index_or k.accounts (a - 1) no_account

-- the own commodity of the account of this number, if it has one
abbrev pub own_of : Names → Option ℕ → Option ℕ
own_of k None = None
own_of k (Some a) = (account_at k a).own

-- by number: an account was opened, a commodity declared
abbrev pub is_account : Names → ℕ → Bool
is_account k a = nat_le 1 a && nat_le a (length k.accounts)

abbrev pub is_commodity : Names → ℕ → Bool
is_commodity k c = nat_le 1 c && nat_le c (length k.commodities)
