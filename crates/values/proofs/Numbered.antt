-- The parts of a name, each with how many stand before it.
use Rattle.std.proofs.Common.{◌≡◌, ℕ, suc, ◌+◌, ◌<◌, ◌≤◌, Bool, true, false, ◌&&◌, nat_lt, nat_le, List, [], ◌∷◌, length, ap, ◌∙◌, arith}
use Rattle.std.proofs.lemmas.Bool.Decides.{nat_tests}
use Rattle.std.specs.List.{list_all, enumerate_from}
use Rattle.values.specs.Names.{is_part, all_parts}

one_more : (most k n : ℕ) (here behind rest : Bool) → k ≤ most → (k < most → rest ≡ (behind && nat_le (k + 1 + n) most)) → ((nat_lt k most && here) && rest) ≡ ((here && behind) && nat_le (k + suc n) most)
one_more most k n true true rest h ih = grind (arith, nat_tests)
one_more most k n true false rest h ih = grind (arith, nat_tests)
one_more most k n false behind rest h ih = grind (arith, nat_tests)

numbered : (most k : ℕ) (ps : List (List ℕ)) → k ≤ most → list_all (λ p. nat_lt p.0 most && is_part p.1) (enumerate_from k ps) ≡ (list_all is_part ps && nat_le (k + length ps) most)
numbered most k [] h = grind (arith, nat_tests)
numbered most k (p ∷ ps) h = one_more most k (length ps) (is_part p) (list_all is_part ps) _ h (λ l. numbered most (k + 1) ps (omega arith))

pub all_numbered : (most : ℕ) (ps : List (List ℕ)) → list_all (λ p. nat_lt p.0 most && is_part p.1) (enumerate_from 0 ps) ≡ all_parts most ps
all_numbered most ps =
    let none : 0 + length ps ≡ length ps = omega arith in
    numbered most 0 ps (omega arith) ∙ ap (λ (n : ℕ). list_all is_part ps && nat_le n most) none
