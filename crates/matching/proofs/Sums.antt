-- Sums over lots and draws.
use Rattle.std.proofs.Common.{◌≡◌, ℕ, ◌+◌, ◌≤◌, Bool, true, false, cond, List, [], ◌∷◌, ◌++◌, length, sym, refl, ◌∙◌, arith}
use Rattle.std.specs.List.{filter, sum_by}
use Rattle.std.proofs.lemmas.List.Sums.{sum_by-cons, length-filter}
use Rattle.std.proofs.lemmas.List.Recursion.{is_sum_by}
use Rattle.std.proofs.lemmas.Bool.Decides.{nat_tests}
use Rattle.lots.specs.declared.rows.LotRow.{LotRow}
use Rattle.matching.specs.declared.wanted.Draw.{Draw}
use Rattle.matching.specs.Sums.{sum_of}
use Rattle.matching.specs.Matching.{units_matching, lots_matching}
use Rattle.matching.specs.Drawing.{gives, insert_draw, draws_in_order}

-- cases on a test, wherever it stands in a goal
pub by_bool : (b : Bool) (P : Bool → Type 0) → (b ≡ true → P true) → (b ≡ false → P false) → P b
by_bool true P yes_case no_case = yes_case refl
by_bool false P yes_case no_case = no_case refl

pub sum_of_append : {X : Type 0} (f : X → ℕ) (xs ys : List X) → sum_of f (xs ++ ys) ≡ sum_of f xs + sum_of f ys
sum_of_append f [] ys = omega arith
sum_of_append f (x ∷ xs) ys = let ih = sum_of_append f xs ys in omega arith

pub sum_of_same : {X : Type 0} (f g : X → ℕ) → ((x : X) → f x ≡ g x) → (xs : List X) → sum_of f xs ≡ sum_of g xs
sum_of_same f g e [] = refl
sum_of_same f g e (x ∷ xs) = let h = e x in let ih = sum_of_same f g e xs in omega arith

pub sum_of_insert : (F : Draw → ℕ) (lt : LotRow → LotRow → Bool) (d : Draw) (ds : List Draw) → sum_of F (insert_draw lt d ds) ≡ F d + sum_of F ds
sum_of_insert F lt d [] = refl
sum_of_insert F lt d (e ∷ es) =
    let ih = sum_of_insert F lt d es in
    grind arith

pub sum_of_draws : (F : Draw → ℕ) (lt : LotRow → LotRow → Bool) (g : LotRow → ℕ) → ((r : LotRow) → g r ≡ 0 → F (record { lot = r; units = g r }) ≡ 0)
    → (lots : List LotRow) → sum_of F (draws_in_order lt g lots) ≡ sum_of (λ r. F (record { lot = r; units = g r })) lots
sum_of_draws F lt g none [] = refl
sum_of_draws F lt g none (r ∷ rs) =
    let ih = sum_of_draws F lt g none rs in
    let d : Draw = record { lot = r; units = g r } in
    let z = none r in
    let p = sum_of_insert F lt d (draws_in_order lt g rs) in
    grind (arith, nat_tests)

pub gives_most : (M : LotRow → Bool) (lt : LotRow → LotRow → Bool) (u : ℕ) (lots : List LotRow) (r : LotRow) → gives M lt u lots r ≤ r.units
gives_most M lt u lots r = grind arith

-- what a chain over the lots that match adds up and counts
pub units_kept : (M : LotRow → Bool) (lots : List LotRow) → sum_by (λ r. r.units) (filter M lots) ≡ units_matching M lots
units_kept M [] = refl
units_kept M (r ∷ rs) =
    let ih = units_kept M rs in
    let kept = filter M rs in
    let more = sum_by-cons (λ (s : LotRow). s.units) r kept in
    grind arith

pub lots_kept : (M : LotRow → Bool) (lots : List LotRow) → length (filter M lots) ≡ lots_matching M lots
lots_kept M lots = length-filter M lots ∙ sym (is_sum_by (lots_matching M) (λ r. cond (M r) 1 0) refl (λ _ _. refl) lots)
