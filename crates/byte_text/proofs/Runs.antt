-- Runs of bytes that pass a test.
use Rattle.std.proofs.Common.{◌≡◌, ℕ, suc, ◌+◌, Bool, true, false, eqb, List, [], ◌∷◌, ◌++◌, length, take, drop, refl, ◌∙◌, ⊎_elim, one-add, arith}
use Rattle.std.specs.List.{prefix_len, AllByRecursion, list_all}
use Rattle.std.proofs.lemmas.Bool.{cases_Bool}
use Rattle.std.proofs.lemmas.Bool.Decides.{nat_tests}

more : (m n : ℕ) → eqb (1 + m) (suc n) ≡ eqb m n
more m n = grind (arith, nat_tests)

none : (n : ℕ) → eqb 0 (suc n) ≡ false
none n = grind (arith, nat_tests)

pub run_all : (p : ℕ → Bool) (xs : List ℕ) → eqb (prefix_len p xs) (length xs) ≡ list_all p xs
run_all p [] = refl
run_all p (b ∷ bs) =
    ⊎_elim
    (λ (e : p b ≡ true). rw e (more (prefix_len p bs) (length bs) ∙ run_all p bs))
    (λ (e : p b ≡ false). rw e (none (length bs)))
    (cases_Bool (p b))

-- a run is of bytes that pass
pub run_passes : (p : ℕ → Bool) (xs : List ℕ) → AllByRecursion (λ x. p x ≡ true) (take (prefix_len p xs) xs)
run_passes p [] = tt
run_passes p (x ∷ xs) =
    ⊎_elim
    (λ (e : p x ≡ true). rw (e, one-add) (e, run_passes p xs))
    (λ (e : p x ≡ false). rw e tt)
    (cases_Bool (p x))

-- and what stands behind it is nothing, or starts with a byte that does not
abbrev pub Halts : (ℕ → Bool) → List ℕ → Type 0
Halts p [] = Unit {0}
Halts p (x ∷ xs) = p x ≡ false

pub run_halts : (p : ℕ → Bool) (xs : List ℕ) → Halts p (drop (prefix_len p xs) xs)
run_halts p [] = tt
run_halts p (x ∷ xs) =
    ⊎_elim
    (λ (e : p x ≡ true). rw (e, one-add) (run_halts p xs))
    (λ (e : p x ≡ false). rw e e)
    (cases_Bool (p x))

-- these two make the run
pub run_made : (p : ℕ → Bool) (xs rest : List ℕ) → AllByRecursion (λ x. p x ≡ true) xs → Halts p rest → prefix_len p (xs ++ rest) ≡ length xs
run_made p [] [] h s = refl
run_made p [] (c ∷ rest) h s = rw s
run_made p (x ∷ xs) rest h s = rw (h.0, run_made p xs rest h.1 s, one-add)
