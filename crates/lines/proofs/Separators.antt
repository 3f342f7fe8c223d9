-- The first comma with a space behind it.
use Rattle.std.proofs.lemmas.Grind.{common_steps}
use Rattle.std.proofs.Common.{◌≡◌, ℕ, suc, ◌<◌, ◌≤◌, true, false, List, [], ◌∷◌, length, drop, Option, Some, None, ap, ◌∙◌, sym, zero, add-one, one-add, arith, MatchOption}
use Rattle.std.proofs.lemmas.Bool.{cond-true, cond-false}
use Rattle.lines.specs.Braces.{separates, before_separator}

separates_behind : (b : ℕ) (bs : List ℕ) (k : ℕ) → separates (b ∷ bs) (suc k) ≡ separates bs k
separates_behind b bs k = simp add-one

separator_is : (xs : List ℕ) (n : ℕ) → n ≤ length xs → ((k : ℕ) → k < n → separates xs k ≡ false) → (n < length xs → separates xs n ≡ true) → before_separator xs ≡ n
separator_is [] n l none some = omega arith
separator_is (b ∷ bs) zero l none some = cond-true _ _ _ (some (omega arith))
separator_is (b ∷ bs) (suc n) l none some =
    cond-false _ _ _ (none 0 (omega arith))
    ∙ one-add _
    ∙ ap suc (separator_is bs n (omega arith) (λ k h. sym (separates_behind b bs k) ∙ none (suc k) (omega arith)) (λ h. sym (separates_behind b bs n) ∙ some (omega arith)))

separates_at : (xs : List ℕ) (k : ℕ) → separates (drop k xs) 0 ≡ separates xs k
separates_at xs k = grind (arith, common_steps)

pub separator_found : (r : Option ℕ) (xs : List ℕ) → MatchOption r ((k : ℕ) → 0 ≤ k → k < length xs → separates (drop k xs) 0 ≡ false) (λ i. (0 ≤ i) × (i < length xs) × (separates (drop i xs) 0 ≡ true) × ((k : ℕ) → 0 ≤ k → k < i → separates (drop k xs) 0 ≡ false)) → MatchOption r (before_separator xs ≡ length xs) (λ n. (n ≡ before_separator xs) × (n < length xs))
separator_found None xs none =
    separator_is xs (length xs) (omega arith) (λ k h. sym (separates_at xs k) ∙ none k (omega arith) h) (λ h. absurd (omega arith))
separator_found (Some i) xs f = (
  sym (separator_is xs i (omega arith) (λ k h. sym (separates_at xs k) ∙ f.3 k (omega arith) h) (λ _. sym (separates_at xs i) ∙ f.2)),
  f.1,
)
