-- A worked draft: a purchase of 2.50 at 3.33 weighs 8.3250, which no amount of hundredths balances.
use Rattle.std.proofs.Common.{◌≡◌, ℕ, List, [], ◌∷◌, pos, neg_ℤ, Some, None, Option, refl}
use Rattle.refusal.specs.declared.Refusal.{Refusal}
use Rattle.refusal.specs.declared.Refusal.TheVariants.{NotBalanced, BlankCannotBeFilled}
use Rattle.lots.specs.Orders.{fifo}
use Rattle.stock.specs.Tables.{no_lots}
use Rattle.booking.specs.declared.posting.Posting.{Posting}
use Rattle.booking.specs.declared.posting.PostingKind.TheVariants.{Blank, Plain, Purchase}
use Rattle.booking.specs.declared.entry.Entry.{Entry}
use Rattle.booking.specs.declared.entry.EntryKind.TheVariants.{Bought, Filled}
use Rattle.booking.specs.Booking.{entries_of, first_fault}
use Rattle.booking.specs.Weighing.{weight_sum, unbalanced_in, complete}
use Rattle.booking.specs.Balances.{weighing_tests, no_balances}
use Rattle.refusal.specs.Refusing.{first_met}

-- commodity 1 is EUR, commodity 2 the part; account 1 is the shelf, account 2 the bank
abbrev bought : ℕ → Posting
bought cost = record { line = 7; account = 1; kind = Purchase 250 2 (record { number = cost; commodity = 1 }) None }

abbrev paid : Posting
paid = record { line = 8; account = 2; kind = Plain (neg_ℤ (pos 833)) 1 }

abbrev blank : Posting
blank = record { line = 8; account = 2; kind = Blank }

abbrev entries : List Posting → List Entry
entries ps = entries_of fifo 20240103 no_lots ps

abbrev met : List Posting → Option Refusal
met ps = first_met (weighing_tests ps None no_balances (entries ps))

weighs : weight_sum (entries (bought 333 ∷ [])) 1 ≡ pos 83250
weighs = refl

books : first_fault fifo 20240103 no_lots (bought 333 ∷ paid ∷ []) ≡ None
books = refl

against_an_amount : met (bought 333 ∷ paid ∷ []) ≡ Some NotBalanced
unfolding unbalanced_in
against_an_amount = refl

against_a_blank : met (bought 333 ∷ blank ∷ []) ≡ Some BlankCannotBeFilled
unfolding unbalanced_in
against_a_blank = refl

-- at 3.32 it weighs 8.3000, and the blank becomes -8.30
at_another_cost : met (bought 332 ∷ blank ∷ []) ≡ None
unfolding unbalanced_in
at_another_cost = refl

filled : complete (entries (bought 332 ∷ blank ∷ [])) ≡ record { line = 7; kind = Bought (record { account = 1; commodity = 2; cost = record { number = 332; commodity = 1 }; date = 20240103 }) 250 1 } ∷ record { line = 8; kind = Filled 2 (neg_ℤ (pos 830)) 1 } ∷ []
unfolding unbalanced_in
filled = refl

no_posting : met [] ≡ Some NotBalanced
unfolding unbalanced_in
no_posting = refl
