-- What `reduce` gives at the end of a chain, where its closure computes a function of what v reads of the items.
use Rattle.std.proofs.Common.{◌≡◌, ℕ, List, [], ◌∷◌, map, Some, None, Option, sym, refl, ap, ◌∙◌, subst}
use Rattle.std.specs.Fn.{Called}
use Rattle.std.specs.Iterator.{ReducesItems}
use Rattle.std.specs.List.{FoldsTo, fold, reduce}
use Rattle.std.specs.Option.{option_map}
use Rattle.std.proofs.iter.Yields.{gives_Drains}
use Rattle.std.proofs.lemmas.Iterator.{YieldsList}
use denote.Param.Members.{Mut}

module _ {A B F : Type 0} (v : A → B) (g : Mut F (A × (A × Unit {0})) A) (h : B → B → B) (f : F) (computes : (p x y : A) (q : F) → Called g f (p, (x, tt)) y q → (q ≡ f) × (v y ≡ h (v p) (v x))) where
  turns : (xs : List A) (p q : F × A) → p.0 ≡ f → FoldsTo {P = F × A} (λ a x b. Called g a.0 (a.1, (x, tt)) b.1 b.0) p xs q → v q.1 ≡ fold h (v p.1) (map v xs)
  turns [] p q e c = ap (λ w. v w.1) (sym c)
  turns (x ∷ xs) p q e c =
      let turn = computes p.1 x c.0.1 c.0.0 (subst (λ w. Called g w (p.1, (x, tt)) c.0.1 c.0.0) e c.1) in
      turns xs c.0 q turn.0 c.2 ∙ ap (λ b. fold h b (map v xs)) turn.1

pub reduce_from_chain : {S A B F : Type 0} {steps : S → Option A → S → Type 0} {v : A → B} {s : S} {all : List B} (g : Mut F (A × (A × Unit {0})) A) (h : B → B → B) {f : F} (r : Option A)
    → ReducesItems steps g s f r → YieldsList steps v s all → ((p x y : A) (q : F) → Called g f (p, (x, tt)) y q → (q ≡ f) × (v y ≡ h (v p) (v x))) → option_map v r ≡ reduce h all
reduce_from_chain {steps = steps} {v} {s} {all} g h None ran e computes = ap (reduce h) (gives_Drains steps v [] all s e.runs ran)
reduce_from_chain {steps = steps} {v} {s} {all} g h {f} (Some y) ran e computes =
    ap Some (turns v g h f computes ran.1 (f, ran.0) (ran.2, y) refl ran.4) ∙ ap (reduce h) (gives_Drains steps v (ran.0 ∷ ran.1) all s e.runs ran.3)

-- the place of an item stays, however the item is read
pub same_place : {A B : Type 0} (w : A → B) (r : Option (ℕ × A)) → option_map (λ (p : ℕ × A). p.0) r ≡ option_map (λ (p : ℕ × B). p.0) (option_map (λ (p : ℕ × A). (p.0, w p.1)) r)
same_place w None = refl
same_place w (Some p) = refl
