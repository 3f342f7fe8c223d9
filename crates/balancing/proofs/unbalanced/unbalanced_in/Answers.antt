use Rattle.std.proofs.Common.{◌≡◌, ℕ, get_or, pos, ◌∙◌, refl, rules}
use Rattle.std.proofs.lemmas.Fn.{fold_over}
use Rattle.std.proofs.lemmas.List.Sums.{fold_push}
use Rattle.std.specs.List.{fold, range_with_len}
use Rattle.booking.specs.Weighing.{unbalanced_in, weight_sum}
use Rattle.balancing.specs.declared.unbalanced.Unbalanced.{Unbalanced}
use Rattle.balancing.specs.declared.unbalanced.Unbalanced.TheVariants.{Nothing}
use Rattle.balancing.specs.Summary.{and_commodity}
use Rattle.balancing.proofs.Ranges.{steps_up, counted_up}
use Rattle.balancing.proofs.Summing.{summed, summary_agrees}
use Rattle.balancing.proofs.unbalanced.unbalanced_in.Goals as goal

pub returns : goal.returns
unfolding unbalanced_in
returns c =
    let sum = λ (n : ℕ). get_or c.weight_sums-sums.result n (pos 0) in
    let h = λ (u : Unbalanced) (n : ℕ). and_commodity n (sum n) u in
    fold_over steps_up (λ x. x) _ (λ ys u. u ≡ fold h Nothing ys) _ (λ ys u n v f e k. rw (fold_push h Nothing ys n, ← e) (search rules)) c.new.result (range_with_len 1 16) _ _ (counted_up c.new.result 1 16 c.new.ensures.start c.new.ensures.end c.new.ensures.exhausted).runs refl c.fold.ensures.ran
    ∙ summed sum 0 1 16 16 refl refl
    ∙ summary_agrees sum (weight_sum c.args.entries.now) 16 (λ n l. c.weight_sums-sums.ensures n l)
