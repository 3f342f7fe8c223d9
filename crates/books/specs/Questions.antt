-- What can be asked of a ledger. Questions change nothing, and never show a draft.
use Rattle.std.specs.Prelude.{ℕ, List, [], ◌∷◌, length, ℤ, Result}
use Rattle.std.specs.Option.{ok_or}
use Rattle.refusal.specs.declared.Fault.{Fault}
use Rattle.refusal.specs.declared.Refusal.TheVariants.{NothingThere}
use Rattle.refusal.specs.Refusing.{unless}
use Rattle.lots.specs.declared.rows.LotRow.{LotRow}
use Rattle.stock.specs.Tables.{lot_of_serial}
use Rattle.refusal.specs.Faults.{fault_at}
use Rattle.books.specs.declared.outcome.Counts.{Counts}
use Rattle.books.specs.States.{State}
use Rattle.books.specs.Conditions.{nothing_there}
use Rattle.books.specs.Holdings.{holding, plain_balance}
use Rattle.books.specs.Refusals.{Test, tests_at, first_fault_met}

-- 3, with line 0
abbrev pub question_tests : State → ℕ → ℕ → List Test
question_tests s a c = tests_at 0 ((NothingThere, nothing_there s.names a c) ∷ [])

abbrev pub holding_of : State → ℕ → ℕ → Result ℤ Fault
holding_of s a c = unless (first_fault_met (question_tests s a c)) (holding s.books a c)

abbrev pub plain_balance_of : State → ℕ → ℕ → Result ℤ Fault
plain_balance_of s a c = unless (first_fault_met (question_tests s a c)) (plain_balance s.books a c)

abbrev pub counts_of : State → Counts
counts_of s = record {
  commodities = length s.names.commodities;
  accounts = length s.names.accounts;
  lots = length s.books.table.lots;
  transactions = s.transactions;
  rows = s.rows;
  next = s.books.table.next;
}

-- the open lot that bears a serial; 3 where none does
abbrev pub lot_of : State → ℕ → Result LotRow Fault
lot_of s serial = ok_or (lot_of_serial serial s.books.table.lots) (fault_at 0 NothingThere)
