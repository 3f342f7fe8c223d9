-- The refusals that each call can meet, as tables: in the order in which they are tested, each with the line that it reports.
-- The first that is met is what the call answers. Fields stand in the order of the journal's form.
use Rattle.std.specs.Prelude.{ℕ, ◌+◌, Bool, false, cond, List, [], ◌∷◌, ◌++◌, map, length, ℤ, Some, None, Option}
use Rattle.refusal.specs.declared.Refusal.{Refusal}
use Rattle.refusal.specs.declared.Refusal.TheVariants.{DraftUnderWay, NoSuchDraft, BadDate, BadAccountName, BadCommodityName, BadNumber, BadBraces, GoesBack, CommodityDeclaredAlready, CommodityNotDeclared, AccountOpenedBefore, AccountNotOpen, NotTheOwnCommodity, TooManyPostings, SecondBlank, BracesWithoutUse, BalanceDiffers, AccountNotEmpty, BooksFull, RecordTooShort, TooManyRows}
use Rattle.refusal.specs.declared.Fault.{Fault}
use Rattle.lots.specs.Orders.{Order}
use Rattle.stock.specs.Tables.{Table}
use Rattle.booking.specs.declared.posting.Posting.{Posting}
use Rattle.booking.specs.declared.entry.Entry.{Entry}
use Rattle.booking.specs.Postings.{lots_tests, table_after_posting}
use Rattle.refusal.specs.Faults.{fault_at}
use Rattle.booking.specs.Booking.{entries_of}
use Rattle.booking.specs.Weighing.{blank_account}
use Rattle.booking.specs.Balances.{weighing_tests}
use Rattle.booking.specs.declared.draft.Draft.{Draft}
use Rattle.books.specs.States.{State}
use Rattle.books.specs.Calls.{Call, declaring, opening, asserting, closing, beginning, posting, settling, tearing, writing_header, CostGiven, BracesGiven, AmountGiven}
use Rattle.books.specs.Lookups.{commodity_number, number_or_0, own_of}
use Rattle.books.specs.Conditions.{draft_under_way, no_such_draft, bad_date, bad_account_name, bad_commodity_name, bad_number, has_minus, goes_back, declared_already, not_declared, opened_before, not_open, none_under, not_the_own_commodity, too_many_postings, holds_a_blank, braces_without_use, balance_differs, not_empty, commodities_full, accounts_full, record_too_short, too_many_rows}

-- a refusal, the line that it reports, and whether it is met
pub record Test : Type 0 where
  pub refusal : Refusal
  pub line : ℕ
  pub met : Bool

abbrev pub tests_at : ℕ → List (Refusal × Bool) → List Test
tests_at line ts = map (λ t. record { refusal = t.0; line = line; met = t.1 }) ts

-- the place is 0, since a call has no line of text
abbrev pub fault_of : Test → Fault
fault_of t = fault_at t.line t.refusal

abbrev pub first_fault_met : List Test → Option Fault
first_fault_met [] = None
first_fault_met (t ∷ ts) = cond t.met (Some (fault_of t)) (first_fault_met ts)

-- tests of what may be given
abbrev pub if_given : {X Y : Type 0} → (X → List Y) → Option X → List Y
if_given f None = []
if_given f (Some x) = f x

-- it is given, and passes a test
abbrev pub given_and : {X : Type 0} → (X → Bool) → Option X → Bool
given_and test None = false
given_and test (Some x) = test x

-- dated calls: 1, the date, the other fields, 12, and what follows it
abbrev pub dated_tests : State → ℕ → ℕ → List (Refusal × Bool) → List (Refusal × Bool) → List (Refusal × Bool)
dated_tests s date rank fields others = (DraftUnderWay, draft_under_way s) ∷ (BadDate, bad_date date) ∷ (fields ++ ((GoesBack, goes_back s date rank) ∷ others))

-- their tables

abbrev pub declaring_tests : State → ℕ → List ℕ → List (Refusal × Bool)
declaring_tests s date name =
    dated_tests s date 0 ((BadCommodityName, bad_commodity_name name) ∷ [])
    ((CommodityDeclaredAlready, declared_already s.names name)
    ∷ (BooksFull, commodities_full s.names)
    ∷ [])

abbrev pub opening_tests : State → ℕ → List ℕ → Option (List ℕ) → List (Refusal × Bool)
opening_tests s date name own =
    dated_tests s date 0 ((BadAccountName, bad_account_name name) ∷ (BadCommodityName, given_and bad_commodity_name own) ∷ [])
    ((CommodityNotDeclared, given_and (not_declared s.names) own)
    ∷ (AccountOpenedBefore, opened_before s.names name)
    ∷ (BooksFull, accounts_full s.names)
    ∷ [])

abbrev pub asserting_tests : State → ℕ → List ℕ → ℤ → List ℕ → List (Refusal × Bool)
asserting_tests s date account amount commodity =
    dated_tests s date 1 ((BadAccountName, bad_account_name account) ∷ (BadNumber, bad_number amount) ∷ (BadCommodityName, bad_commodity_name commodity) ∷ [])
    ((CommodityNotDeclared, not_declared s.names commodity)
    ∷ (AccountNotOpen, none_under s.names account)
    ∷ (BalanceDiffers, balance_differs s account amount commodity)
    ∷ [])

abbrev pub closing_tests : State → ℕ → List ℕ → List (Refusal × Bool)
closing_tests s date account =
    dated_tests s date 3 ((BadAccountName, bad_account_name account) ∷ [])
    ((AccountNotOpen, not_open s.names account)
    ∷ (AccountNotEmpty, not_empty s account)
    ∷ [])

abbrev pub beginning_tests : State → ℕ → List (Refusal × Bool)
beginning_tests s date = dated_tests s date 2 [] []

-- inside braces: the cost's number, its minus, its commodity, then the date
abbrev pub cost_fields : CostGiven → List (Refusal × Bool)
cost_fields cost = (BadNumber, bad_number cost.number) ∷ (BadBraces, has_minus cost.number) ∷ (BadCommodityName, bad_commodity_name cost.commodity) ∷ []

abbrev pub braces_fields : BracesGiven → List (Refusal × Bool)
braces_fields b = if_given cost_fields b.cost ++ if_given (λ date. (BadDate, bad_date date) ∷ []) b.date

abbrev pub cost_not_declared : State → BracesGiven → List (Refusal × Bool)
cost_not_declared s b = if_given (λ cost. (CommodityNotDeclared, not_declared s.names cost.commodity) ∷ []) b.cost

-- the postings of the draft under way
abbrev pub drafted : Option Draft → List Posting
drafted None = []
drafted (Some d) = d.postings

-- a posting of an amount: 2, the fields, 14, and then 16 to 18 and 20
abbrev pub amount_fields : List ℕ → AmountGiven → List (Refusal × Bool)
amount_fields account x =
    (BadAccountName, bad_account_name account)
    ∷ (BadNumber, bad_number x.number)
    ∷ (BadCommodityName, bad_commodity_name x.commodity)
    ∷ if_given braces_fields x.braces

-- of a commodity told by its number
abbrev pub account_tests : State → List ℕ → ℕ → AmountGiven → List (Refusal × Bool)
account_tests s account commodity x =
    (AccountNotOpen, not_open s.names account)
    ∷ (NotTheOwnCommodity, not_the_own_commodity s.names account commodity)
    ∷ (TooManyPostings, too_many_postings (drafted s.draft))
    ∷ if_given (λ b. (BracesWithoutUse, braces_without_use x.number b) ∷ []) x.braces

abbrev pub commodity_tests : State → List ℕ → AmountGiven → List (Refusal × Bool)
commodity_tests s account x =
    (CommodityNotDeclared, not_declared s.names x.commodity)
    ∷ (if_given (cost_not_declared s) x.braces ++ account_tests s account (number_or_0 (commodity_number s.names x.commodity)) x)

abbrev pub amount_tests : State → ℕ → List ℕ → AmountGiven → List (Refusal × Bool)
amount_tests s slip account x = (NoSuchDraft, no_such_draft s slip) ∷ (amount_fields account x ++ commodity_tests s account x)

abbrev pub blank_tests : State → ℕ → List ℕ → List (Refusal × Bool)
blank_tests s slip account =
    (NoSuchDraft, no_such_draft s slip)
    ∷ (BadAccountName, bad_account_name account)
    ∷ (AccountNotOpen, not_open s.names account)
    ∷ (TooManyPostings, too_many_postings (drafted s.draft))
    ∷ (SecondBlank, holds_a_blank (drafted s.draft))
    ∷ []

abbrev pub posting_tests : State → ℕ → List ℕ → Option AmountGiven → List (Refusal × Bool)
posting_tests s slip account None = blank_tests s slip account
posting_tests s slip account (Some x) = amount_tests s slip account x

-- 21 to 24: the postings in order, each upon the lots that the one before left, with its own line
abbrev pub lots_tests_of_all : Order → ℕ → Table → List Posting → List Test
lots_tests_of_all o day t [] = []
lots_tests_of_all o day t (p ∷ ps) = tests_at p.line (lots_tests o day p.account t p.kind) ++ lots_tests_of_all o day (table_after_posting o day t p) ps

-- 31 and 32
abbrev pub record_tests : ℕ → ℕ → List (Refusal × Bool)
record_tests lent rows = (RecordTooShort, record_too_short lent rows) ∷ (TooManyRows, too_many_rows rows) ∷ []

-- the entries of a draft, its blank not filled yet
abbrev pub draft_entries : Order → State → Draft → List Entry
draft_entries o s d = entries_of o d.date s.books.table d.postings

-- what a draft meets once its postings are booked: 25, 26 and 27 (`weighing_tests`), 31, 32, with the line of its beginning
abbrev pub whole_draft_tests : State → ℕ → Draft → List Entry → List (Refusal × Bool)
whole_draft_tests s lent d es =
    weighing_tests d.postings (own_of s.names (blank_account es)) s.books.balances es ++ record_tests lent (s.rows + length es)

abbrev pub draft_tests : Order → State → ℕ → Draft → List Test
draft_tests o s lent d = lots_tests_of_all o d.date s.books.table d.postings ++ tests_at d.line (whole_draft_tests s lent d (draft_entries o s d))

-- the table of each call
abbrev pub tests : Order → State → Call → List Test
tests o s (declaring source date name) = tests_at source (declaring_tests s date name)
tests o s (opening source date name own) = tests_at source (opening_tests s date name own)
tests o s (asserting source date account amount commodity) = tests_at source (asserting_tests s date account amount commodity)
tests o s (closing source date account) = tests_at source (closing_tests s date account)
tests o s (beginning source date flag) = tests_at source (beginning_tests s date)
tests o s (posting slip source account amount) = tests_at source (posting_tests s slip account amount)
tests o s (settling slip lent) = tests_at 0 ((NoSuchDraft, no_such_draft s slip) ∷ []) ++ if_given (draft_tests o s lent) s.draft
tests o s (tearing slip) = tests_at 0 ((NoSuchDraft, no_such_draft s slip) ∷ [])
tests o s (writing_header lent) = tests_at 0 ((RecordTooShort, record_too_short lent s.rows) ∷ [])

-- why a call is refused, if it is
abbrev pub refusal : Order → State → Call → Option Fault
refusal o s c = first_fault_met (tests o s c)
