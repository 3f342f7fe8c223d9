-- Plain balances by account and commodity, and the tests of a weighed draft.
use Rattle.std.specs.Prelude.{ℕ, ◌+◌, ◌-◌, ◌*◌, Bool, not, List, [], ◌∷◌, ◌++◌, replicate, ℤ, pos, ◌+ℤ◌, Option, nat_le, slice_index_or, slice_set, unsigned_abs}
use Rattle.std.specs.List.{list_all}
use Rattle.refusal.specs.declared.Refusal.{Refusal}
use Rattle.refusal.specs.declared.Refusal.TheVariants.{NotBalanced, BlankCannotBeFilled, BalanceTooLarge}
use Rattle.booking.specs.Limits.{most_commodities, balance_count}
use Rattle.booking.specs.declared.posting.Posting.{Posting}
use Rattle.booking.specs.declared.entry.Entry.{Entry}
use Rattle.booking.specs.declared.entry.EntryKind.{EntryKind}
use Rattle.booking.specs.declared.entry.EntryKind.TheVariants.{PlainAmount, Unfilled, Filled, Bought, Drew}
use Rattle.booking.specs.Weighing.{not_balanced, blank_cannot_be_filled, complete}

-- each account has a place for each commodity: where the balance of an account in a commodity stands
abbrev pub balance_place : ℕ → ℕ → ℕ
balance_place account commodity = most_commodities * (account - 1) + (commodity - 1)

abbrev pub no_balances : List ℤ
no_balances = replicate balance_count (pos 0)

abbrev pub balance_in : List ℤ → ℕ → ℕ → ℤ
balance_in bs account commodity = slice_index_or bs (balance_place account commodity) (pos 0)

-- an amount more for an account in a commodity
abbrev pub add_amount : List ℤ → ℕ → ℕ → ℤ → List ℤ
add_amount bs account commodity amount = slice_set bs (balance_place account commodity) (balance_in bs account commodity +ℤ amount)

-- plain amounts and filled blanks go to the plain balances
abbrev pub add_kind : List ℤ → EntryKind → List ℤ
add_kind bs (PlainAmount account amount commodity) = add_amount bs account commodity amount
add_kind bs (Unfilled account) = bs
add_kind bs (Filled account amount commodity) = add_amount bs account commodity amount
add_kind bs (Bought key units serial) = bs
add_kind bs (Drew draw) = bs

-- the plain balances after entries
abbrev pub balances_after : List ℤ → List Entry → List ℤ
balances_after bs [] = bs
balances_after bs (e ∷ es) = balances_after (add_kind bs e.kind) es

-- the largest plain balance in size, in hundredths
abbrev pub largest_balance : ℕ
largest_balance = 6100000000000

abbrev pub all_within : List ℤ → Bool
all_within bs = list_all (λ z. nat_le (unsigned_abs z) largest_balance) bs

-- 27: a plain balance would, after the whole draft, be larger in size
abbrev pub balance_too_large : List ℤ → List Entry → Bool
balance_too_large bs es = not (all_within (balances_after bs (complete es)))

-- which of 25 and 26 a draft of these postings and entries can meet once it is booked, and which of 25 to 27
abbrev pub balancing_tests : List Posting → Option ℕ → List Entry → List (Refusal × Bool)
balancing_tests ps own es = (NotBalanced, not_balanced ps es) ∷ (BlankCannotBeFilled, blank_cannot_be_filled own es) ∷ []

abbrev pub weighing_tests : List Posting → Option ℕ → List ℤ → List Entry → List (Refusal × Bool)
weighing_tests ps own bs es = balancing_tests ps own es ++ ((BalanceTooLarge, balance_too_large bs es) ∷ [])
