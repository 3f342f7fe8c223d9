-- When each refusal is met, in the words of the list of refusals (docs/REFUSALS.md). The number stands before each.
use Rattle.std.specs.Prelude.{ℕ, zero, suc, Bool, true, false, not, ◌&&◌, ◌||◌, List, length, ℤ, pos, negsuc, ◌-ℤ◌, is_some, ◌==◌, nat_le, nat_lt}
use Rattle.std.specs.List.{list_any}
use Rattle.values.specs.Amounts.{is_amount}
use Rattle.values.specs.Calendar.{is_day}
use Rattle.values.specs.Names.{is_commodity_name, is_account_name}
use Rattle.record.specs.Layout.{first_free, most_rows}
use Rattle.booking.specs.Limits.{most_commodities, most_accounts, most_postings}
use Rattle.booking.specs.declared.posting.Posting.{Posting}
use Rattle.booking.specs.declared.posting.PostingKind.{PostingKind}
use Rattle.booking.specs.declared.posting.PostingKind.TheVariants.{Blank, Plain, Purchase, Reduction}
use Rattle.booking.specs.Weighing.{is_zero, own_agrees}
use Rattle.books.specs.States.{Names, State, next_number}
use Rattle.books.specs.Calls.{BracesGiven}
use Rattle.books.specs.Lookups.{commodity_number, account_number, open_account, any_under, number_or_0, own_of, is_account, is_commodity}
use Rattle.books.specs.Holdings.{holdings_under, is_empty_account}

-- 1: a draft is under way
abbrev pub draft_under_way : State → Bool
draft_under_way s = is_some s.draft

-- 2: no draft is under way, or its number is not the slip's
abbrev pub no_such_draft : State → ℕ → Bool
no_such_draft s slip = not (is_some s.draft && slip == next_number s)

-- 3: a question names an account never opened, a commodity never declared
abbrev pub nothing_there : Names → ℕ → ℕ → Bool
nothing_there k a c = not (is_account k a && is_commodity k c)

-- 6: no day of the calendar from 1970 to 2199
abbrev pub bad_date : ℕ → Bool
bad_date date = not (is_day date)

-- 7
abbrev pub bad_account_name : List ℕ → Bool
bad_account_name name = not (is_account_name name)

-- 8
abbrev pub bad_commodity_name : List ℕ → Bool
bad_commodity_name name = not (is_commodity_name name)

-- 9: not an amount of -99,999,999 to 99,999,999 hundredths
abbrev pub bad_number : ℤ → Bool
bad_number z = not (is_amount z)

-- 11: a cost has a minus
abbrev pub has_minus : ℤ → Bool
has_minus (pos n) = false
has_minus (negsuc n) = true

-- 12: date and rank lie before the last accepted date and rank
abbrev pub goes_back : State → ℕ → ℕ → Bool
goes_back s date rank = nat_lt date s.last_date || (date == s.last_date && nat_lt rank s.last_rank)

-- 13: the commodity is declared already
abbrev pub declared_already : Names → List ℕ → Bool
declared_already k name = is_some (commodity_number k name)

-- 14: a commodity is not declared
abbrev pub not_declared : Names → List ℕ → Bool
not_declared k name = not (is_some (commodity_number k name))

-- 15: an account of this name was opened before, even if it is closed by now
abbrev pub opened_before : Names → List ℕ → Bool
opened_before k name = is_some (account_number k name)

-- 16: the account was never opened, or is closed
abbrev pub not_open : Names → List ℕ → Bool
not_open k name = not (is_some (open_account k name))

-- 16 in asserting: no account that lies under the named one was ever opened
abbrev pub none_under : Names → List ℕ → Bool
none_under k name = not (any_under k name)

-- 17: the amount is in another commodity, told by its number, than the account's own one
abbrev pub not_the_own_commodity : Names → List ℕ → ℕ → Bool
not_the_own_commodity k account commodity = not (own_agrees (own_of k (open_account k account)) commodity)

-- 18: the draft holds the most postings already
abbrev pub too_many_postings : List Posting → Bool
too_many_postings ps = nat_le most_postings (length ps)

abbrev pub is_blank : PostingKind → Bool
is_blank Blank = true
is_blank (Plain amount commodity) = false
is_blank (Purchase units commodity cost date) = false
is_blank (Reduction units commodity cost date) = false

-- 19, of a posting that is a blank: the draft holds one already
abbrev pub holds_a_blank : List Posting → Bool
holds_a_blank ps = list_any (λ p. is_blank p.kind) ps

-- 20: braces with 0 units, or with units above 0 and no cost
abbrev pub braces_without_use : ℤ → BracesGiven → Bool
braces_without_use (pos zero) b = true
braces_without_use (pos (suc n)) b = not (is_some b.cost)
braces_without_use (negsuc n) b = false

-- 28: the asserted amount is not the sum of the holdings
abbrev pub balance_differs : State → List ℕ → ℤ → List ℕ → Bool
balance_differs s account z commodity = not (is_zero (holdings_under s.books account (number_or_0 (commodity_number s.names commodity)) 1 s.names.accounts -ℤ z))

-- 29: the account has an open lot, or a plain balance other than 0
abbrev pub not_empty : State → List ℕ → Bool
not_empty s account = not (is_empty_account s.books (number_or_0 (open_account s.names account)))

-- 30: the most commodities are declared, or the most accounts were opened
abbrev pub commodities_full : Names → Bool
commodities_full k = nat_le most_commodities (length k.commodities)

abbrev pub accounts_full : Names → Bool
accounts_full k = nat_le most_accounts (length k.accounts)

-- 31: the record has no room for the header and so many rows
abbrev pub record_too_short : ℕ → ℕ → Bool
record_too_short lent rows = not (nat_le (first_free rows) lent)

-- 32
abbrev pub too_many_rows : ℕ → Bool
too_many_rows rows = not (nat_le rows most_rows)
