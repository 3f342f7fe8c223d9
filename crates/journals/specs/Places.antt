-- Outcomes in the places that a caller lends.
use Rattle.std.specs.Prelude.{ℕ, List, [], ◌∷◌, Some, None, Option, slice_set}

-- written over places, as many as there are
abbrev pub placed : {X : Type 0} → List X → List X → List X
placed [] places = places
placed (x ∷ xs) [] = []
placed (x ∷ xs) (p ∷ ps) = x ∷ placed xs ps

-- one more at a place, if there is one and such a place
abbrev pub place_one : {X : Type 0} → List X → ℕ → Option X → List X
place_one places at None = places
place_one places at (Some x) = slice_set places at x
