-- The law over runs. Its words are those of the history (`history_of`); `end` is the ledger after the last call, as the questions show it.
use Rattle.std.specs.Prelude.{◌≡◌, ◌+◌, List, length}
use Rattle.std.specs.List.{AllByRecursion}
use Rattle.lots.specs.Orders.{Order, Keeps}
use Rattle.stock.specs.Kept.{WellKept}
use Rattle.books.specs.declared.outcome.Outcome.{Outcome}
use Rattle.books.specs.States.{State, empty_ledger}
use Rattle.books.specs.Calls.{Call}
use Rattle.books.specs.Steps.{state_after, outcomes}
use Rattle.law.specs.Histories.{History, no_history, history_of, all_entries}
use Rattle.law.specs.Amounts.{BooksBalance, BalancesAreSettled, UnitsAreSettled, SerialOfOpening, KindBearsSerial}
use Rattle.law.specs.Reductions.{EachSettling}

-- what holds of a ledger at the end of a history
pub record Stands (h : History) (end : State) : Type 0 where
  pub books_balance : BooksBalance end.books
  pub balances_are_settled : BalancesAreSettled (all_entries h.settlements) end.books
  pub units_are_settled : UnitsAreSettled (all_entries h.settlements) end.books.table.lots
  pub lots_are_settled : end.books.table ≡ h.table
  -- at most 256 open lots, each within its ranges, with different keys, in the order of their serials
  pub lots_are_well_kept : WellKept end.books.table
  -- open lots and settled entries bear the serials that were counted, from 1, as lots were opened
  pub lots_bear_serials : AllByRecursion (λ r. SerialOfOpening h.opened r.serial r.key) end.books.table.lots
  pub next_serial : end.books.table.next ≡ length h.opened + 1
  pub entries_bear_serials : AllByRecursion (λ e. KindBearsSerial h.opened e.kind) (all_entries h.settlements)
  pub rows_are_counted : end.rows ≡ length (all_entries h.settlements)
  pub transactions_are_counted : end.transactions ≡ length h.settlements
  pub names_are_given : end.names ≡ h.names
  pub draft_is_begun : end.draft ≡ h.draft

pub record Lawful (o : Order) (calls : List Call) (outs : List Outcome) (end : State) : Type 0 where
  pub stands : Stands (history_of o calls outs) end
  pub reductions_draw_by_policy : EachSettling o no_history calls outs

-- of every list of calls on a new ledger
abbrev pub BooksStandUnder : Order → Type 0
BooksStandUnder o = (calls : List Call) → Lawful o calls (outcomes o empty_ledger calls) (state_after o empty_ledger calls)

-- It holds of every policy that keeps the laws.
abbrev pub BooksStand : Type 0
BooksStand = (o : Order) → Keeps o → BooksStandUnder o
