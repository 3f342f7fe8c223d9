-- Outcomes that have a place each are those that stand in the places.
use Rattle.std.proofs.Common.{◌≡◌, ◌≤◌, List, [], ◌∷◌, length, take, refl, ap, arith}
use Rattle.journals.specs.Places.{placed}

pub taken : {X : Type 0} (xs ys : List X) → length xs ≤ length ys → take (length xs) (placed xs ys) ≡ xs
taken [] ys h = refl
taken (x ∷ xs) [] h = absurd (omega arith)
taken (x ∷ xs) (y ∷ ys) h = ap (λ zs. x ∷ zs) (taken xs ys (omega arith))
