-- What a call answers and leaves, and runs of calls.
use Rattle.std.specs.Prelude.{◌≡◌, ℕ, Bool, true, false, ◌&&◌, ◌||◌, ◌⊎◌, List, [], ◌∷◌, ◌++◌, Some, None, Option, nat_le}
use Rattle.std.specs.List.{AllByRecursion}
use Rattle.refusal.specs.declared.Fault.{Fault}
use Rattle.refusal.specs.Table.{number_of}
use Rattle.matching.specs.Drawn.{AllPairs}
use Rattle.lots.specs.Orders.{Order}
use Rattle.books.specs.declared.outcome.Outcome.{Outcome}
use Rattle.books.specs.declared.outcome.Outcome.TheVariants.{Refused}
use Rattle.books.specs.States.{State}
use Rattle.books.specs.Calls.{Call}
use Rattle.books.specs.Refusals.{Test, fault_of, tests, refusal}
use Rattle.books.specs.Changes.{change, reply}

-- a refused call changes nothing
abbrev pub answered : Order → State → Call → Option Fault → Outcome × State
answered o s c None = (reply s c, change o s c)
answered o s c (Some fault) = (Refused fault, s)

abbrev pub step : Order → State → Call → Outcome × State
step o s c = answered o s c (refusal o s c)

-- the ledger after a list of calls, and what each answered
abbrev pub state_after : Order → State → List Call → State
state_after o s [] = s
state_after o s (c ∷ cs) = state_after o (step o s c).1 cs

abbrev pub outcomes : Order → State → List Call → List Outcome
outcomes o s [] = []
outcomes o s (c ∷ cs) = (step o s c).0 ∷ outcomes o (step o s c).1 cs

-- a test is the first of a list that is met
pub record FirstMet (ts : List Test) (t : Test) : Type 0 where
  pub before : List Test
  pub behind : List Test
  pub listed : ts ≡ before ++ t ∷ behind
  pub none_before : AllByRecursion (λ other. other.met ≡ false) before
  pub is_met : t.met ≡ true

-- The answer is the first refusal of its table that the call meets, and then nothing changes; a call that meets none is carried out.
abbrev pub AnswersFirst : Order → State → Call → Outcome × State → Type 0
AnswersFirst o s c answer =
    ((t : Test) × FirstMet (tests o s c) t × (answer ≡ (Refused (fault_of t), s))) ⊎ (AllByRecursion (λ t. t.met ≡ false) (tests o s c) × (answer ≡ (reply s c, change o s c)))

abbrev pub AnswersFirstMet : Type 0
AnswersFirstMet = (o : Order) (s : State) (c : Call) → AnswersFirst o s c (step o s c)

-- both numbers lie between two others
abbrev pub both_between : ℕ → ℕ → ℕ → ℕ → Bool
both_between low high m n = (nat_le low m && nat_le m high) && (nat_le low n && nat_le n high)

-- In a table the smaller number comes first, except among 5 to 11, where the fields decide, and among 21 to 24, where the postings do.
abbrev pub may_precede : ℕ → ℕ → Bool
may_precede m n = nat_le m n || (both_between 5 11 m n || both_between 21 24 m n)

abbrev pub InListOrder : List Test → Type 0
InListOrder ts = AllPairs (λ t u. may_precede (number_of t.refusal) (number_of u.refusal) ≡ true) ts

abbrev pub TablesInListOrder : Type 0
TablesInListOrder = (o : Order) (s : State) (c : Call) → InListOrder (tests o s c)
