-- What a push does to the items of a bounded list.
use Rattle.std.specs.Prelude.{ℕ, cond, List, [], ◌∷◌, ◌++◌, length, Ok, Err, Result, nat_le}
use Rattle.bounded.specs.declared.list.Full.{Full}

-- what a push onto at most n items answers, and the items after it
abbrev pub pushed : {T : Type 0} → ℕ → List T → T → Result (Unit {0}) Full × List T
pushed n xs x = cond (nat_le n (length xs)) (Err (record {}), xs) (Ok tt, xs ++ (x ∷ []))
