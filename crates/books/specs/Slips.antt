-- A slip and the ledger that handed it out.
use Rattle.std.specs.Prelude.{◌≡◌, ℕ, true, is_some}
use Rattle.books.specs.States.{State, next_number}

-- a draft is under way, and this is its slip's number
pub record HoldsSlip (s : State) (slip : ℕ) : Type 0 where
  pub under_way : is_some s.draft ≡ true
  pub number : slip ≡ next_number s
