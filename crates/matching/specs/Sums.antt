-- Sums over lists.
use Rattle.std.specs.Prelude.{ℕ, ◌+◌, List, [], ◌∷◌, ℤ, pos, ◌+ℤ◌}

abbrev pub sum_of : {X : Type 0} → (X → ℕ) → List X → ℕ
sum_of f [] = 0
sum_of f (x ∷ xs) = f x + sum_of f xs

abbrev pub sum_of_ints : {X : Type 0} → (X → ℤ) → List X → ℤ
sum_of_ints f [] = pos 0
sum_of_ints f (x ∷ xs) = f x +ℤ sum_of_ints f xs
