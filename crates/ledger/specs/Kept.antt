-- What a ledger is to its callers: a policy and a state.
use Rattle.books.specs.States.{State}

pub record Kept (P : Type 0) : Type 0 where
  pub policy : P
  pub state : State

-- the same policy, in another state
abbrev pub in_state : {P : Type 0} → Kept P → State → Kept P
in_state l s = record { policy = l.policy; state = s }
