-- The calls that a run carries out.
use Rattle.std.specs.Prelude.{ℕ, List, map, take, length}
use Rattle.books.specs.declared.call.Call as code
use Rattle.books.specs.declared.outcome.Outcome.{Outcome}
use Rattle.books.specs.Calls.{Call}
use Rattle.books.specs.Given.{given_call}
use Rattle.books.specs.Lending.{lend_within}

-- each is lent no more than a record of this size has
abbrev pub given_calls : ℕ → List code.Call → List Call
given_calls size calls = map (λ c. lend_within size (given_call c)) calls

-- as many as there are places for outcomes
abbrev pub calls_run : ℕ → ℕ → List code.Call → List Call
calls_run places size calls = given_calls size (take places calls)

-- what these were answered, of all places
abbrev pub answers_run : List code.Call → List Outcome → List Outcome
answers_run calls answers = take (length (take (length answers) calls)) answers
