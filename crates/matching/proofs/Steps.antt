-- One draw from the earliest matching lot x, which stands between the lots ys and zs, and then the rest.
use Rattle.std.proofs.Common.{◌≡◌, ℕ, ◌+◌, ◌-◌, ◌<◌, ◌≤◌, min, Bool, true, false, ◌&&◌, ◌⊎◌, List, [], ◌∷◌, ◌++◌, length, get_or, refl, ap, ◌∙◌, ⊎_elim, arith}
use Rattle.std.specs.List.{AllByRecursion}
use Rattle.std.proofs.ByRecursion.{All-weaker, All-from_get_or}
use Rattle.std.proofs.lemmas.Bool.Decides.{nat_tests}
use Rattle.lots.specs.declared.rows.LotRow.{LotRow}
use Rattle.lots.specs.Rows.{no_lot, with_fewer}
use Rattle.matching.specs.declared.wanted.Draw.{Draw}
use Rattle.matching.specs.Sums.{sum_of}
use Rattle.matching.specs.Matching.{units_if}
use Rattle.matching.specs.Places.{NoneMatch}
use Rattle.matching.specs.Drawing.{units_before, gives, lots_left, insert_draw, draws_in_order, draws, left_over}
use Rattle.matching.proofs.Drawing.{sum_of_zero_all, all_draws, left_same}

pub sum_of_split : (f : LotRow → ℕ) (ys : List LotRow) (x : LotRow) (zs : List LotRow) → sum_of f (ys ++ x ∷ zs) ≡ f x + sum_of f (ys ++ zs)
sum_of_split f [] x zs = refl
sum_of_split f (y ∷ ys) x zs = let ih = sum_of_split f ys x zs in omega arith

-- draws
draws_same : (lt : LotRow → LotRow → Bool) (f g : LotRow → ℕ) (xs : List LotRow) → AllByRecursion (λ r. f r ≡ g r) xs → draws_in_order lt f xs ≡ draws_in_order lt g xs
draws_same lt f g [] all = refl
draws_same lt f g (r ∷ rs) all = let here = all.0 in let ih = draws_same lt f g rs all.1 in cc

draws_none : (lt : LotRow → LotRow → Bool) (f : LotRow → ℕ) (xs : List LotRow) → AllByRecursion (λ r. f r ≡ 0) xs → draws_in_order lt f xs ≡ []
draws_none lt f [] all = refl
draws_none lt f (r ∷ rs) all = let here = all.0 in let ih = draws_none lt f rs all.1 in grind (arith, nat_tests)

insert_front : (lt : LotRow → LotRow → Bool) (d : Draw) (ds : List Draw) → AllByRecursion (λ e. lt d.lot e.lot ≡ true) ds → insert_draw lt d ds ≡ d ∷ ds
insert_front lt d [] all = refl
insert_front lt d (e ∷ es) all = let here = all.0 in cc

-- x gives something, and comes before each other lot that does
draws_first : (lt : LotRow → LotRow → Bool) (f : LotRow → ℕ) (ys : List LotRow) (x : LotRow) (zs : List LotRow) → (f x ≡ 0 → ⊥)
    → AllByRecursion (λ r. (f r ≡ 0 → ⊥) → (lt r x ≡ false) × (lt x r ≡ true)) (ys ++ zs)
    → draws_in_order lt f (ys ++ x ∷ zs) ≡ record { lot = x; units = f x } ∷ draws_in_order lt f (ys ++ zs)
draws_first lt f [] x zs some all =
    let front = insert_front lt (record { lot = x; units = f x }) (draws_in_order lt f zs)
    (all_draws (λ e. lt x e.lot ≡ true) lt f zs (All-weaker (λ r. (f r ≡ 0 → ⊥) → (lt r x ≡ false) × (lt x r ≡ true)) (λ r. (f r ≡ 0 → ⊥) → lt x r ≡ true) (λ r h ne. (h ne).1) zs all)) in
    grind (arith, nat_tests)
draws_first lt f (y ∷ ys) x zs some all =
    let ih = draws_first lt f ys x zs some all.1 in
    let after = all.0 in
    grind (arith, nat_tests)

-- what is left
left_none : (f : LotRow → ℕ) (xs : List LotRow) → AllByRecursion (λ r. f r ≡ 0) xs → AllByRecursion (λ r. 1 ≤ r.units) xs → lots_left f xs ≡ xs
left_none f [] none some = refl
left_none f (r ∷ rs) none some =
    let z = none.0 in
    let l = some.0 in
    let ih = left_none f rs none.1 some.1 in
    grind (arith, nat_tests)

left_gone : (f : LotRow → ℕ) (ys : List LotRow) (x : LotRow) (zs : List LotRow) → x.units ≤ f x → lots_left f (ys ++ x ∷ zs) ≡ lots_left f (ys ++ zs)
left_gone f [] x zs h = grind (arith, nat_tests)
left_gone f (y ∷ ys) x zs h = let ih = left_gone f ys x zs h in cc

left_part : (f : LotRow → ℕ) (ys : List LotRow) (x : LotRow) (zs : List LotRow) → f x < x.units → AllByRecursion (λ r. f r ≡ 0) (ys ++ zs) → AllByRecursion (λ r. 1 ≤ r.units) (ys ++ zs)
    → lots_left f (ys ++ x ∷ zs) ≡ ys ++ with_fewer x (f x) ∷ zs
left_part f [] x zs h none some =
    let rest = left_none f zs none some in
    grind (arith, nat_tests)
left_part f (y ∷ ys) x zs h none some =
    let z = none.0 in
    let l = some.0 in
    let ih = left_part f ys x zs h none.1 some.1 in
    grind (arith, nat_tests)

-- x matches, and comes before each other lot that does
pub record Leads (M : LotRow → Bool) (lt : LotRow → LotRow → Bool) (ys : List LotRow) (x : LotRow) (zs : List LotRow) : Type 0 where
  pub fits : M x ≡ true
  pub own : lt x x ≡ false
  pub others : AllByRecursion (λ r. M r ≡ true → (lt r x ≡ false) × (lt x r ≡ true)) (ys ++ zs)

module _ (M : LotRow → Bool) (lt : LotRow → LotRow → Bool) (ys : List LotRow) (x : LotRow) (zs : List LotRow) (leads : Leads M lt ys x zs) where
  -- nothing comes before x
  before_none : units_before M lt (ys ++ x ∷ zs) x ≡ 0
  before_none =
      let f = units_if (λ y. M y && lt y x) in
      let s = sum_of_split f ys x zs in
      let own = leads.own in
      let rest = sum_of_zero_all f (ys ++ zs) (All-weaker (λ r. M r ≡ true → (lt r x ≡ false) × (lt x r ≡ true)) (λ r. f r ≡ 0)
      (λ r h. grind arith)
      (ys ++ zs) leads.others) in
      grind arith

  -- x comes before each other matching lot
  before_more : (r : LotRow) → lt x r ≡ true → units_before M lt (ys ++ x ∷ zs) r ≡ x.units + units_before M lt (ys ++ zs) r
  before_more r l =
      let f = units_if (λ y. M y && lt y r) in
      let s = sum_of_split f ys x zs in
      let fits = leads.fits in
      grind arith

  gives_x : (n : ℕ) → gives M lt n (ys ++ x ∷ zs) x ≡ min x.units n
  gives_x n = let z = before_none in let fits = leads.fits in grind arith

  gives_others : (n : ℕ) → x.units ≤ n → AllByRecursion (λ r. gives M lt n (ys ++ x ∷ zs) r ≡ gives M lt (n - x.units) (ys ++ zs) r) (ys ++ zs)
  gives_others n h = All-weaker (λ r. M r ≡ true → (lt r x ≡ false) × (lt x r ≡ true)) (λ r. gives M lt n (ys ++ x ∷ zs) r ≡ gives M lt (n - x.units) (ys ++ zs) r)
      (λ r k. let m = before_more r in grind arith)
      (ys ++ zs) leads.others

  gives_nothing : (n : ℕ) → n ≤ x.units → AllByRecursion (λ r. gives M lt n (ys ++ x ∷ zs) r ≡ 0) (ys ++ zs)
  gives_nothing n h = All-weaker (λ r. M r ≡ true → (lt r x ≡ false) × (lt x r ≡ true)) (λ r. gives M lt n (ys ++ x ∷ zs) r ≡ 0)
      (λ r k. let m = before_more r in grind arith)
      (ys ++ zs) leads.others

  -- only a matching lot gives something
  ordered : (n : ℕ) → AllByRecursion (λ r. (gives M lt n (ys ++ x ∷ zs) r ≡ 0 → ⊥) → (lt r x ≡ false) × (lt x r ≡ true)) (ys ++ zs)
  ordered n = All-weaker (λ r. M r ≡ true → (lt r x ≡ false) × (lt x r ≡ true)) (λ r. (gives M lt n (ys ++ x ∷ zs) r ≡ 0 → ⊥) → (lt r x ≡ false) × (lt x r ≡ true))
      (λ r k ne. (grind arith, grind arith))
      (ys ++ zs) leads.others

  -- x is drawn to its last unit
  pub draws_whole : (n : ℕ) → 1 ≤ x.units → x.units ≤ n → draws M lt n (ys ++ x ∷ zs) ≡ record { lot = x; units = x.units } ∷ draws M lt (n - x.units) (ys ++ zs)
  draws_whole n some h =
      let f = gives M lt n (ys ++ x ∷ zs) in
      let g : f x ≡ x.units = let e = gives_x n in omega arith in
      let first = draws_first lt f ys x zs (λ z. omega arith) (ordered n) in
      let rest = draws_same lt f (gives M lt (n - x.units) (ys ++ zs)) (ys ++ zs) (gives_others n h) in
      cc

  pub left_whole : (n : ℕ) → x.units ≤ n → left_over M lt n (ys ++ x ∷ zs) ≡ left_over M lt (n - x.units) (ys ++ zs)
  left_whole n h =
      let e = gives_x n in
      left_gone (gives M lt n (ys ++ x ∷ zs)) ys x zs (omega arith) ∙ left_same (gives M lt n (ys ++ x ∷ zs)) (gives M lt (n - x.units) (ys ++ zs)) (ys ++ zs) (gives_others n h)

  -- a part of x is drawn, and no other lot
  pub draws_part : (n : ℕ) → 1 ≤ n → n < x.units → draws M lt n (ys ++ x ∷ zs) ≡ record { lot = x; units = n } ∷ []
  draws_part n some h =
      let f = gives M lt n (ys ++ x ∷ zs) in
      let g : f x ≡ n = let e = gives_x n in omega arith in
      let first = draws_first lt f ys x zs (λ z. omega arith) (ordered n) in
      let rest = draws_none lt f (ys ++ zs) (gives_nothing n (omega arith)) in
      cc

  pub left_in_part : (n : ℕ) → n < x.units → AllByRecursion (λ r. 1 ≤ r.units) (ys ++ zs) → left_over M lt n (ys ++ x ∷ zs) ≡ ys ++ with_fewer x n ∷ zs
  left_in_part n h some =
      let f = gives M lt n (ys ++ x ∷ zs) in
      let g : f x ≡ n = let e = gives_x n in omega arith in
      left_part f ys x zs (omega arith) (gives_nothing n (omega arith)) some ∙ ap (λ (m : ℕ). ys ++ with_fewer x m ∷ zs) g

-- nothing is asked, or nothing matches
module _ (M : LotRow → Bool) (lt : LotRow → LotRow → Bool) (n : ℕ) (xs : List LotRow) (none : (n ≡ 0) ⊎ NoneMatch M xs (length xs)) where
  gives_none : AllByRecursion (λ r. gives M lt n xs r ≡ 0) xs
  gives_none = All-from_get_or (λ r. gives M lt n xs r ≡ 0) xs no_lot (λ i h.
      let r = get_or xs i no_lot in
      ⊎_elim (λ (z : n ≡ 0). grind arith) (λ (f : NoneMatch M xs (length xs)). let other = f i h in grind arith) none)

  pub draws_nothing : draws M lt n xs ≡ []
  draws_nothing = draws_none lt (gives M lt n xs) xs gives_none

  pub left_all : AllByRecursion (λ r. 1 ≤ r.units) xs → left_over M lt n xs ≡ xs
  left_all = left_none (gives M lt n xs) xs gives_none
