-- What the check of one refusal answers: nothing where it is not met, the refusal where it is.
use Rattle.std.specs.Prelude.{◌≡◌, Bool, true, false, Ok, Err, Result}
use Rattle.refusal.specs.declared.Refusal.{Refusal}

abbrev pub Checks : Refusal → Bool → Result (Unit {0}) Refusal → Type 0
Checks refusal met (Ok _) = met ≡ false
Checks refusal met (Err e) = (met ≡ true) × (e ≡ refusal)

-- what a check answers that also finds a value
abbrev pub Finds : {X : Type 0} → Refusal → Bool → X → Result X Refusal → Type 0
Finds refusal met value (Ok x) = (met ≡ false) × (x ≡ value)
Finds refusal met value (Err e) = (met ≡ true) × (e ≡ refusal)
