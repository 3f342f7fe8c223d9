-- The number of the first that passes, from its place.
use Rattle.std.proofs.Common.{◌≡◌, ℕ, ◌+◌, Bool, List, [], ◌∷◌, Option, Bor, refl, ap, ◌∙◌, arith}
use Rattle.std.proofs.iter.Yields.{fronts}
use Rattle.std.proofs.lemmas.Grind.{common_steps}
use Rattle.std.proofs.lemmas.Iterator.{YieldsList-from_slice}
use Rattle.std.proofs.lemmas.Iterator.Adapters.{position_from-zero}
use Rattle.std.proofs.lemmas.Iterator.Search.{position_from_yields_List}
use Rattle.std.specs.Fn.{Called}
use Rattle.std.specs.Iterator.{FindsPosition}
use Rattle.std.specs.List.{position_from}
use Rattle.std.specs.Option.{option_map}
use Rattle.std.specs.Slice.Iter.{iter_rest}

module _ {X : Type 0} (test : X → Bool) where
  counted_on : (n : ℕ) (xs : List X) → option_map (λ i. i + 1) (position_from test n xs) ≡ position_from test (n + 1) xs
  counted_on n [] = refl
  counted_on n (x ∷ xs) = let ih = counted_on (n + 1) xs in grind (arith, common_steps)

  -- what `position` answers over a slice, counted from 1
  pub number_found : {F : Type 0} {g : _} {s t : _} {f : F} {place number : Option ℕ} (xs : List X) → FindsPosition fronts g s f place t → iter_rest s ≡ xs → ((x : Bor X) (b : Bool) (q : F) → Called g f (x, tt) b q → (q ≡ f) × (b ≡ test x.now)) → number ≡ option_map (λ i. i + 1) place → number ≡ position_from test 1 xs
  number_found xs ran rest passes counted =
      counted ∙ ap (option_map (λ i. i + 1)) (position_from_yields_List test _ _ _ ran (YieldsList-from_slice xs rest) passes ∙ position_from-zero test xs) ∙ counted_on 0 xs
