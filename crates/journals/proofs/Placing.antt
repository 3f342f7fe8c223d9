-- One outcome more in its place.
use Rattle.std.proofs.Common.{◌≡◌, List, [], ◌∷◌, ◌++◌, length, set, refl, ap, arith}
use Rattle.journals.specs.Places.{placed}

pub placed_all : {X : Type 0} (xs ys : List X) → length (placed xs ys) ≡ length ys
placed_all [] ys = refl
placed_all (x ∷ xs) [] = refl
placed_all (x ∷ xs) (y ∷ ys) = let ih = placed_all xs ys in omega arith

pub placed_more : {X : Type 0} (xs ys : List X) (x : X) → placed (xs ++ x ∷ []) ys ≡ set (placed xs ys) (length xs) x
placed_more [] [] x = refl
placed_more [] (y ∷ ys) x = refl
placed_more (z ∷ xs) [] x = refl
placed_more (z ∷ xs) (y ∷ ys) x = ap (λ zs. z ∷ zs) (placed_more xs ys x)
