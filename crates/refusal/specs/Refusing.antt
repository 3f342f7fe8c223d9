-- What refuses something, test after test. Assumes nothing.
use Rattle.std.specs.Prelude.{Bool, cond, List, [], ◌∷◌, Some, None, Ok, Err, Option, Result}
use Rattle.refusal.specs.declared.Refusal.{Refusal}

-- the first refusal of a list whose test is met
abbrev pub first_met : List (Refusal × Bool) → Option Refusal
first_met [] = None
first_met (t ∷ ts) = cond t.1 (Some t.0) (first_met ts)

-- x, unless something refuses it
abbrev pub unless : {X E : Type 0} → Option E → X → Result X E
unless None x = Ok x
unless (Some refusal) x = Err refusal
