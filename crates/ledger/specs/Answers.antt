-- The answers of calls as outcomes.
use Rattle.std.specs.Prelude.{◌≡◌, Ok, Err, Result}
use Rattle.refusal.specs.declared.Fault.{Fault}
use Rattle.lots.specs.Orders.{Order}
use Rattle.books.specs.declared.outcome.Outcome.{Outcome}
use Rattle.books.specs.declared.outcome.Outcome.TheVariants.{Refused}
use Rattle.books.specs.Calls.{Call}
use Rattle.books.specs.Steps.{step}
use Rattle.ledger.specs.Kept.{Kept, in_state}
use Rattle.ledger.specs.declared.slip.Slip.{Slip}

abbrev pub outcome_of : {X : Type 0} → (X → Outcome) → Result X Fault → Outcome
outcome_of accepted (Ok x) = accepted x
outcome_of accepted (Err fault) = Refused fault

-- what a call on a ledger of a policy answers and leaves; the policy stays
abbrev pub carried_out : {P : Type 0} → (P → Order) → Kept P → Call → Outcome × Kept P
carried_out order l call = ((step (order l.policy) l.state call).0, in_state l (step (order l.policy) l.state call).1)

-- refused, the slip comes back
abbrev pub outcome_with_slip : {X : Type 0} → (X → Outcome) → Result X (Slip × Fault) → Outcome
outcome_with_slip accepted (Ok x) = accepted x
outcome_with_slip accepted (Err e) = Refused e.1

abbrev pub GivesBack : {X : Type 0} → Slip → Result X (Slip × Fault) → Type 0
GivesBack slip (Ok x) = Unit {0}
GivesBack slip (Err e) = e.0 ≡ slip
