-- The numbers that an inclusive range gives, from the first up and from the last down.
use Rattle.std.proofs.Common.{◌≡◌, ℕ, zero, suc, ◌+◌, ◌-◌, false, List, [], ◌∷◌, Option, subst, arith}
use Rattle.std.proofs.lemmas.Grind.{common_steps}
use Rattle.std.proofs.lemmas.Iterator.{YieldsList}
use Rattle.std.proofs.lemmas.Iterator.Consumers.{YieldsList-from_shown}
use Rattle.std.specs.Iterator.Adapters.{rev_source, rev_steps}
use Rattle.std.specs.List.{range_with_len}
use Rattle.std.specs.Range.{range_inclusive_left, range_inclusive_steps, range_inclusive_steps_back}
use Rattle.std.specs.declared.iter.Rev.{Rev}
use Rattle.std.specs.declared.ops.RangeInclusive.{RangeInclusive}

abbrev gap : ℕ → ℕ → ℕ
gap a b = b - a

abbrev follows : ℕ → ℕ → Type 0
follows a b = b ≡ a + 1

abbrev pub steps_up : RangeInclusive ℕ → Option ℕ → RangeInclusive ℕ → Type 0
steps_up = range_inclusive_steps gap follows

abbrev steps_down : Rev (RangeInclusive ℕ) → Option ℕ → Rev (RangeInclusive ℕ) → Type 0
steps_down = rev_steps (range_inclusive_steps_back gap follows)

abbrev left : RangeInclusive ℕ → ℕ
left = range_inclusive_left gap

-- n numbers, from a down
abbrev pub down_from : ℕ → ℕ → List ℕ
down_from a zero = []
down_from a (suc n) = a ∷ down_from (a - 1) n

pub counted_up : (s : RangeInclusive ℕ) (a b : ℕ) → s.start ≡ a → s.end ≡ b → s.exhausted ≡ false → YieldsList steps_up (λ x. x) s (range_with_len a (b + 1 - a))
counted_up s a b first last fresh =
    subst (YieldsList steps_up (λ x. x) s) (grind (arith, common_steps))
    (YieldsList-from_shown steps_up (λ x. x) (λ t. range_with_len t.start (left t)) (λ s t h. grind (arith, common_steps)) (λ s x t h. grind (arith, common_steps)) s)

pub counted_down : (r : Rev (RangeInclusive ℕ)) (s : RangeInclusive ℕ) (a b : ℕ) → rev_source r ≡ s → s.start ≡ a → s.end ≡ b → s.exhausted ≡ false → YieldsList steps_down (λ x. x) r (down_from b (b + 1 - a))
counted_down r s a b same first last fresh =
    subst (YieldsList steps_down (λ x. x) r) (grind (arith, common_steps))
    (YieldsList-from_shown steps_down (λ x. x) (λ t. down_from (rev_source t).end (left (rev_source t))) (λ s t h. grind (arith, common_steps)) (λ s x t h. grind (arith, common_steps)) r)
