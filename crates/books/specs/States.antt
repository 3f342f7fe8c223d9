-- The ledger as lists and numbers.
use Rattle.std.specs.Prelude.{ℕ, ◌+◌, List, [], ℤ, None, Option}
use Rattle.stock.specs.Tables.{Table, no_lots}
use Rattle.booking.specs.declared.draft.Draft.{Draft}
use Rattle.booking.specs.Balances.{no_balances}
use Rattle.books.specs.declared.account.Account.{Account}

-- commodities as declared and accounts as opened, each counted from 1
pub record Names : Type 0 where
  pub commodities : List (List ℕ)
  pub accounts : List Account

abbrev pub no_names : Names
no_names = record { commodities = []; accounts = [] }

-- plain balances by account and commodity, and the open lots
pub record Books : Type 0 where
  pub balances : List ℤ
  pub table : Table

-- the draft under way or none, the last accepted date and rank, how many transactions are settled and rows written
pub record State : Type 0 where
  pub names : Names
  pub books : Books
  pub draft : Option Draft
  pub last_date : ℕ
  pub last_rank : ℕ
  pub transactions : ℕ
  pub rows : ℕ

-- a new ledger
abbrev pub empty_ledger : State
empty_ledger = record {
  names = no_names;
  books = record { balances = no_balances; table = no_lots };
  draft = None;
  last_date = 0;
  last_rank = 0;
  transactions = 0;
  rows = 0;
}

-- the number of the draft under way, which its slip bears, and of the transaction that it becomes; where none is, of the next one
abbrev pub next_number : State → ℕ
next_number s = s.transactions + 1
