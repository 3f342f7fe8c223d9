-- Sums over lots, draws and entries.
use Rattle.std.proofs.Common.{◌≡◌, ℕ, ◌+◌, ◌-◌, ◌*◌, ◌≤◌, true, List, [], ◌∷◌, ◌++◌, ℤ, ◌+ℤ◌, sym, refl, ap, ◌∙◌, add-mul, arith}
use Rattle.std.specs.List.{flat_map}
use Rattle.std.proofs.lemmas.List.{flat_map_more}
use Rattle.std.proofs.lemmas.Int.{ints}
use Rattle.std.proofs.lemmas.Bool.Decides.{nat_tests}
use Rattle.lots.specs.declared.rows.Key.{Key}
use Rattle.lots.specs.declared.rows.LotRow.{LotRow}
use Rattle.lots.specs.Rows.{with_more, with_fewer}
use Rattle.matching.specs.Sums.{sum_of, sum_of_ints}
use Rattle.matching.specs.Drawing.{lots_left}
use Rattle.stock.specs.Tables.{of_key, add_units}

pub sum_of_ints_append : {X : Type 0} (f : X → ℤ) (xs ys : List X) → sum_of_ints f (xs ++ ys) ≡ sum_of_ints f xs +ℤ sum_of_ints f ys
sum_of_ints_append f [] ys = omega (arith, ints)
sum_of_ints_append f (x ∷ xs) ys = let ih = sum_of_ints_append f xs ys in omega (arith, ints)

-- units come to a lot of their key, or to a new one
pub sum_of_added : (f : LotRow → ℕ) (k : Key) (n next g : ℕ) → ((r : LotRow) → of_key k r ≡ true → f (with_more r n) ≡ f r + g) → f (record { key = k; units = n; serial = next }) ≡ g
    → (lots : List LotRow) → sum_of f (add_units k n next lots) ≡ sum_of f lots + g
sum_of_added f k n next g grows opens [] = omega arith
sum_of_added f k n next g grows opens (r ∷ rs) =
    let ih = sum_of_added f k n next g grows opens rs in
    let more = grows r in
    grind arith

-- each lot less what it gives
pub sum_of_left : (f h g : LotRow → ℕ) → ((r : LotRow) → f (with_fewer r (g r)) + h r ≡ f r) → ((r : LotRow) → r.units ≤ g r → h r ≡ f r)
    → (lots : List LotRow) → sum_of f (lots_left g lots) + sum_of h lots ≡ sum_of f lots
sum_of_left f h g part whole [] = refl
sum_of_left f h g part whole (r ∷ rs) =
    let ih = sum_of_left f h g part whole rs in
    let all = whole r in
    let some = part r in
    grind (arith, nat_tests)

-- a product over a difference
pub times_less : (a b c : ℕ) → b ≤ a → (a - b) * c + b * c ≡ a * c
times_less a b c h = sym (add-mul (a - b) b c) ∙ ap (λ (n : ℕ). n * c) (omega arith)

-- one more at the end of what is joined
pub joined_push : {X A : Type 0} (f : X → List A) (xs : List X) (x : X) → flat_map f (xs ++ (x ∷ [])) ≡ flat_map f xs ++ f x
joined_push f xs x = sym (flat_map_more f [] xs x)
