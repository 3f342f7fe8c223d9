-- The summary of the commodities that are out of balance, one commodity after another.
use Rattle.std.proofs.Common.{◌≡◌, ℕ, zero, suc, ◌+◌, ◌≤◌, Bool, true, false, List, [], ◌∷◌, ℤ, cond, refl, sym, ◌∙◌, arith}
use Rattle.std.specs.List.{fold, range_with_len}
use Rattle.booking.specs.Weighing.{is_zero, unbalanced}
use Rattle.balancing.specs.declared.unbalanced.Unbalanced.{Unbalanced}
use Rattle.balancing.specs.Summary.{summary, one_more, and_commodity}

module _ (sum : ℕ → ℤ) where
  next_is : (z : Bool) (n : ℕ) (cs : List ℕ) → cond z (summary sum cs) (one_more n (sum n) (summary sum cs)) ≡ summary sum (cond z cs (n ∷ cs))
  next_is true n cs = refl
  next_is false n [] = refl
  next_is false n (c ∷ []) = refl
  next_is false n (c ∷ d ∷ cs) = refl

  -- n commodities are counted, and m are left, from the next on
  pub summed : (n next m k : ℕ) → next ≡ suc n → n + m ≡ k → fold (λ (u : Unbalanced) (c : ℕ). and_commodity c (sum c) u) (summary sum (unbalanced n sum)) (range_with_len next m) ≡ summary sum (unbalanced k sum)
  summed n next zero k e f = let same : n ≡ k = omega arith in rw same refl
  summed n next (suc m) k e f =
      rw e (rw (next_is (is_zero (sum (suc n))) (suc n) (unbalanced n sum)) (summed (suc n) (suc n + 1) m k (omega arith) (omega arith)))

-- sums that agree up to n have one summary
pub summary_agrees : (f g : ℕ → ℤ) (n : ℕ) → ((c : ℕ) → c ≤ n → f c ≡ g c) → summary f (unbalanced n f) ≡ summary g (unbalanced n g)
summary_agrees f g zero same = refl
summary_agrees f g (suc n) same =
    let here : f (suc n) ≡ g (suc n) = same (suc n) (omega arith) in
    let ih = summary_agrees f g n (λ c l. same c (omega arith)) in
    sym (next_is f (is_zero (f (suc n))) (suc n) (unbalanced n f)) ∙ rw (here, ih) (next_is g (is_zero (g (suc n))) (suc n) (unbalanced n g))
