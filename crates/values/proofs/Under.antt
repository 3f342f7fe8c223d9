-- An account lies under another exactly where the test says so.
use Rattle.std.proofs.lemmas.Grind.{common_steps}
use Rattle.std.proofs.Common.{◌≡◌, ℕ, ◌+◌, ◌<◌, ◌&&◌, eqb, List, ◌∷◌, ◌++◌, length, get_or, take, drop, Decides, refl, ap, ◌∙◌, arith}
use Rattle.std.specs.Str.{bytes_eq}
use Rattle.std.proofs.lemmas.Slice.Eq.{bytes_eq-Decides}
use Rattle.std.proofs.lemmas.List.{take_at, get_or_at}
use Rattle.std.proofs.lemmas.Bool.{and_parts, and_from, eqb-true, eq-eqb}
use Rattle.std.proofs.lemmas.Bool.Decides.{Decides-or}
use Rattle.values.specs.Names.{lies_under}
use Rattle.values.specs.Spelling.{LiesUnder}

within : (a : List ℕ) (n : ℕ) → get_or a n 0 ≡ 58 → n < length a
within a n e = grind (arith, common_steps)

behind : (a b : List ℕ) → take (length b) a ≡ b → get_or a (length b) 0 ≡ 58 → a ≡ b ++ 58 ∷ drop (length b + 1) a
behind a b e f = grind (arith, common_steps)

below_decides : (a b : List ℕ) → Decides (bytes_eq (take (length b) a) b && eqb (get_or a (length b) 0) 58) ((rest : List ℕ) × (a ≡ b ++ 58 ∷ rest))
below_decides a b = (
  λ e.
      let p = and_parts (bytes_eq (take (length b) a) b) _ e in
      (drop (length b + 1) a, behind a b ((bytes_eq-Decides _ _).0 p.0) (eqb-true _ _ p.1)),
  λ h.
      and_from _ _
      ((bytes_eq-Decides _ _).1 (ap (take (length b)) h.1 ∙ take_at b (58 ∷ h.0) (length b) refl))
      (eq-eqb _ _ (ap (λ (x : List ℕ). get_or x (length b) 0) h.1 ∙ get_or_at b 58 h.0 0 (length b) refl)),
)

pub under_decides : (a b : List ℕ) → Decides (lies_under a b) (LiesUnder a b)
under_decides a b = Decides-or _ _ (bytes_eq-Decides a b) (below_decides a b)
