-- What an accepted call leaves, and what it answers.
use Rattle.std.specs.Prelude.{ℕ, suc, ◌+◌, ◌-◌, true, false, List, [], ◌∷◌, ◌++◌, length, ℤ, pos, negsuc, Some, None, Option, slice_set, unsigned_abs}
use Rattle.std.specs.Option.{option_map}
use Rattle.values.specs.declared.flag.Flag.{Flag}
use Rattle.lots.specs.declared.rows.Cost.{Cost}
use Rattle.lots.specs.Orders.{Order}
use Rattle.stock.specs.Tables.{Table}
use Rattle.booking.specs.declared.posting.Posting.{Posting}
use Rattle.booking.specs.declared.posting.PostingKind.{PostingKind}
use Rattle.booking.specs.declared.posting.PostingKind.TheVariants.{Blank, Plain, Purchase, Reduction}
use Rattle.booking.specs.declared.entry.Entry.{Entry}
use Rattle.booking.specs.Booking.{table_after, entries_of}
use Rattle.booking.specs.Weighing.{complete}
use Rattle.booking.specs.Balances.{balances_after}
use Rattle.books.specs.declared.outcome.Outcome.{Outcome}
use Rattle.books.specs.declared.outcome.Outcome.TheVariants.{Declared, Opened, Begun, Settled, Done}
use Rattle.books.specs.declared.account.Account.{Account}
use Rattle.booking.specs.declared.draft.Draft.{Draft}
use Rattle.books.specs.States.{Names, Books, State, next_number}
use Rattle.books.specs.Calls.{Call, declaring, opening, asserting, closing, beginning, posting, settling, tearing, writing_header, CostGiven, BracesGiven, AmountGiven}
use Rattle.books.specs.Lookups.{commodity_number, open_account, number_or_0, account_at}

-- A posting from its arguments: names become numbers.

abbrev pub cost_of : Names → CostGiven → Cost
cost_of k cost = record { number = unsigned_abs cost.number; commodity = number_or_0 (commodity_number k cost.commodity) }

-- units above 0 with a cost are a purchase; without a cost they are refused 20
abbrev pub purchase_kind : ℕ → ℕ → Option Cost → Option ℕ → PostingKind
purchase_kind units commodity None date = Plain (pos units) commodity
purchase_kind units commodity (Some cost) date = Purchase units commodity cost date

-- units below 0 are a reduction
abbrev pub kind_with_braces : ℤ → ℕ → Option Cost → Option ℕ → PostingKind
kind_with_braces (pos units) commodity cost date = purchase_kind units commodity cost date
kind_with_braces (negsuc n) commodity cost date = Reduction (suc n) commodity cost date

abbrev pub kind_of_amount : Names → ℤ → ℕ → Option BracesGiven → PostingKind
kind_of_amount k number commodity None = Plain number commodity
kind_of_amount k number commodity (Some b) = kind_with_braces number commodity (option_map (cost_of k) b.cost) b.date

abbrev pub posting_kind : Names → Option AmountGiven → PostingKind
posting_kind k None = Blank
posting_kind k (Some x) = kind_of_amount k x.number (number_or_0 (commodity_number k x.commodity)) x.braces

abbrev pub posting_to : Names → ℕ → List ℕ → PostingKind → Posting
posting_to k source account kind = record { line = source; account = number_or_0 (open_account k account); kind = kind }

abbrev pub posting_of : Names → ℕ → List ℕ → Option AmountGiven → Posting
posting_of k source account amount = posting_to k source account (posting_kind k amount)

-- Drafts.

abbrev pub new_draft : ℕ → ℕ → Flag → Draft
new_draft source date flag = record { line = source; date = date; flag = flag; postings = [] }

abbrev pub with_posting : Posting → Draft → Draft
with_posting p d = record { line = d.line; date = d.date; flag = d.flag; postings = d.postings ++ (p ∷ []) }

-- what a draft leaves once it is settled upon these lots: the lots, and its entries with the blank filled
abbrev pub lots_after_draft : Order → Table → Draft → Table
lots_after_draft o t d = table_after o d.date t d.postings

abbrev pub settled_entries : Order → Table → Draft → List Entry
settled_entries o t d = complete (entries_of o d.date t d.postings)

-- Names.

abbrev pub with_commodity : Names → List ℕ → Names
with_commodity k name = record { commodities = k.commodities ++ (name ∷ []); accounts = k.accounts }

-- an account, its own commodity told by its number
abbrev pub account_added : Names → List ℕ → Option ℕ → Names
account_added k name own = record { commodities = k.commodities; accounts = k.accounts ++ (record { name = name; own = own; is_open = true } ∷ []) }

abbrev pub with_account : Names → List ℕ → Option (List ℕ) → Names
with_account k name own = account_added k name (option_map (λ c. number_or_0 (commodity_number k c)) own)

abbrev pub closed : Account → Account
closed account = record { name = account.name; own = account.own; is_open = false }

abbrev pub with_account_closed : Names → ℕ → Names
with_account_closed k a = record { commodities = k.commodities; accounts = slice_set k.accounts (a - 1) (closed (account_at k a)) }

-- The ledger.

-- names are changed, and date and rank accepted
abbrev pub with_names : State → Names → ℕ → ℕ → State
with_names s k date rank = record { names = k; books = s.books; draft = s.draft; last_date = date; last_rank = rank; transactions = s.transactions; rows = s.rows }

abbrev pub with_draft : State → Option Draft → State
with_draft s d = record { names = s.names; books = s.books; draft = d; last_date = s.last_date; last_rank = s.last_rank; transactions = s.transactions; rows = s.rows }

-- with these lots, and balances to which entries were added
abbrev pub books_after : Books → Table → List Entry → Books
books_after b t es = record { balances = balances_after b.balances es; table = t }

-- A transaction of a date that left these lots and gave these entries ends the draft. It is counted, and so are its rows, and the last
-- accepted date and rank become its date and 2.
abbrev pub with_transaction : State → ℕ → Table → List Entry → State
with_transaction s date t es = record {
  names = s.names;
  books = books_after s.books t es;
  draft = None;
  last_date = date;
  last_rank = 2;
  transactions = s.transactions + 1;
  rows = s.rows + length es;
}

abbrev pub after_settling : Order → State → Option Draft → State
after_settling o s None = s
after_settling o s (Some d) = with_transaction s d.date (lots_after_draft o s.books.table d) (settled_entries o s.books.table d)

-- what an accepted call leaves
abbrev pub change : Order → State → Call → State
change o s (declaring source date name) = with_names s (with_commodity s.names name) date 0
change o s (opening source date name own) = with_names s (with_account s.names name own) date 0
change o s (asserting source date account amount commodity) = with_names s s.names date 1
change o s (closing source date account) = with_names s (with_account_closed s.names (number_or_0 (open_account s.names account))) date 3
change o s (beginning source date flag) = with_draft s (Some (new_draft source date flag))
change o s (posting slip source account amount) = with_draft s (option_map (with_posting (posting_of s.names source account amount)) s.draft)
change o s (settling slip lent) = after_settling o s s.draft
change o s (tearing slip) = with_draft s None
change o s (writing_header lent) = s

-- what an accepted call answers
abbrev pub reply : State → Call → Outcome
reply s (declaring source date name) = Declared (length s.names.commodities + 1)
reply s (opening source date name own) = Opened (length s.names.accounts + 1)
reply s (asserting source date account amount commodity) = Done
reply s (closing source date account) = Done
reply s (beginning source date flag) = Begun (next_number s)
reply s (posting slip source account amount) = Done
reply s (settling slip lent) = Settled (next_number s)
reply s (tearing slip) = Done
reply s (writing_header lent) = Done
