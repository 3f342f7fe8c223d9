-- What a step has to do: the calls of a turn, one after another, upon the ledger and the record.
use Rattle.std.specs.Prelude.{ℕ, List, Some, None, Option}
use Rattle.lots.specs.Orders.{Order}
use Rattle.books.specs.Recording.{record_after_calls}
use Rattle.books.specs.States.{State}
use Rattle.books.specs.Steps.{state_after}
use Rattle.books.specs.Slips.{HoldsSlip}
use Rattle.ledger.specs.Kept.{Kept, in_state}
use Rattle.ledger.specs.declared.slip.Slip.{Slip}
use Rattle.reader.specs.declared.phase.Phase.{Phase}
use Rattle.reader.specs.declared.phase.Phase.TheVariants.{Outside, InTransaction, Skipping}
use Rattle.reader.specs.Turns.{Turn}

-- in a transaction the slip of the draft under way is held, else none
abbrev pub Held : Phase → Option Slip → State → Type 0
Held InTransaction (Some slip) s = HoldsSlip s slip.number
Held InTransaction None s = ⊥
Held Outside None s = Unit {0}
Held Outside (Some slip) s = ⊥
Held Skipping None s = Unit {0}
Held Skipping (Some slip) s = ⊥

-- the ledger and the record after the calls of a turn
abbrev pub ledger_after : {P : Type 0} → (P → Order) → Kept P → Turn → Kept P
ledger_after order l t = in_state l (state_after (order l.policy) l.state t.calls)

abbrev pub record_after_turn : {P : Type 0} → (P → Order) → Kept P → Turn → List ℕ → List ℕ
record_after_turn order l t book = record_after_calls (order l.policy) l.state t.calls book
