-- A text of at most 48 bytes, kept in 48 places with zeros behind it. The lemmas stand here and not in proofs/, since the model of a
-- name cites them, and an `impl` may name nothing of its own crate but specs/.
use Rattle.std.specs.Prelude.{◌≡◌, ℕ, ◌-◌, ◌≤◌, List, ◌++◌, length, take, drop, replicate}
use Rattle.std.proofs.Common.{sym, ap, ◌∙◌, arith, take-append-drop, length-take-le}

pub same_length : (n : ℕ) (places : List ℕ) → n ≤ 48 → length places ≡ 48 → length (take n places) ≡ n
same_length n places few whole = length-take-le n places (omega (arith, few, whole))

-- the places are their text and the zeros
pub whole_name : (n : ℕ) (places : List ℕ) → n ≤ 48 → length places ≡ 48 → drop n places ≡ replicate (48 - n) 0 → take n places ++ replicate (48 - length (take n places)) 0 ≡ places
whole_name n places few whole zeros =
    ap (λ k. take n places ++ replicate (48 - k) 0) (same_length n places few whole)
    ∙ ap (λ rest. take n places ++ rest) (sym zeros)
    ∙ take-append-drop n places
