-- What a draft comes to before anything is changed, and what carrying that out leaves.
use Rattle.std.specs.Prelude.{◌≡◌, ℕ, ◌+◌, ◌≤◌, true, List, length, Ok, Option, Result}
use Rattle.std.specs.Option.{option_map}
use Rattle.refusal.specs.declared.Refusal.{Refusal}
use Rattle.refusal.specs.declared.Fault.{Fault}
use Rattle.refusal.specs.Refusing.{first_met, unless}
use Rattle.lots.specs.Orders.{Order}
use Rattle.record.specs.Layout.{room_for}
use Rattle.booking.specs.declared.draft.Draft.{Draft}
use Rattle.booking.specs.declared.entry.Entry.{Entry}
use Rattle.booking.specs.declared.entry.Transaction.{Transaction}
use Rattle.stock.specs.Tables.{Table}
use Rattle.booking.specs.Balances.{balances_after, all_within}
use Rattle.booking.specs.Weighing.{complete}
use Rattle.books.specs.Calls.{settling}
use Rattle.books.specs.States.{State, next_number}
use Rattle.books.specs.Changes.{lots_after_draft, settled_entries, with_transaction}
use Rattle.books.specs.Recording.{transaction_of}
use Rattle.books.specs.Refusals.{first_fault_met, whole_draft_tests, draft_tests, refusal}

-- booked: its entries with the blank filled
abbrev pub weighed_draft : State → ℕ → Draft → List Entry → Result (List Entry) Refusal
weighed_draft s lent d es = unless (first_met (whole_draft_tests s lent d es)) (complete es)

-- what a draft comes to: a transaction, with its entries and the lots after it
pub record Plan : Type 0 where
  pub transaction : Transaction
  pub booked : Table × List Entry

abbrev pub plan : Transaction → Table × List Entry → Plan
plan t booked = record { transaction = t; booked = booked }

abbrev pub plan_of : Order → State → Draft → Plan
plan_of o s d = plan (transaction_of (next_number s) d) (lots_after_draft o s.books.table d, settled_entries o s.books.table d)

-- unless the draft meets a refusal
abbrev pub planned : Order → State → ℕ → Draft → Result Plan Fault
planned o s lent d = unless (first_fault_met (draft_tests o s lent d)) (plan_of o s d)

-- of the draft of a slip; where there is none, the settling is refused
abbrev pub planned_for : Order → State → ℕ → ℕ → Result (Option Plan) Fault
planned_for o s slip lent = unless (refusal o s (settling slip lent)) (option_map (plan_of o s) s.draft)

-- A plan that nothing stands in the way of: the record has room, it has an entry, each lot that was ever opened has a row, and
-- all plain balances stay within their bound.
pub record CanBeDone (s : State) (lent : ℕ) (p : Plan) : Type 0 where
  pub room : room_for lent (s.rows + length p.booked.1) ≡ Ok tt
  pub some : 1 ≤ length p.booked.1
  pub serials : p.booked.0.next ≤ s.rows + length p.booked.1 + 1
  pub within : all_within (balances_after s.books.balances p.booked.1) ≡ true

-- what a plan leaves
abbrev pub after_plan : State → Plan → State
after_plan s p = with_transaction s p.transaction.date p.booked.0 p.booked.1
