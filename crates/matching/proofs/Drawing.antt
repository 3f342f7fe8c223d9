-- What the closed form of a reduction draws, in order.
use Rattle.std.proofs.Common.{◌≡◌, ℕ, ◌+◌, ◌-◌, ◌<◌, ◌≤◌, min, Bool, true, false, cond, not, ◌&&◌, eqb, List, [], ◌∷◌, sym, refl, ap, ◌∙◌, subst, inl, inr, ⊎_elim, arith}
use Rattle.std.specs.List.{AllByRecursion}
use Rattle.std.proofs.ByRecursion.{All-weaker}
use Rattle.std.proofs.lemmas.Bool.{cond_both}
use Rattle.std.proofs.lemmas.Bool.Decides.{nat_tests}
use Rattle.lots.specs.declared.rows.LotRow.{LotRow}
use Rattle.matching.specs.declared.wanted.Draw.{Draw}
use Rattle.matching.specs.Sums.{sum_of}
use Rattle.matching.specs.Matching.{units_if, units_matching}
use Rattle.matching.specs.Drawing.{units_before, gives, lots_left, insert_draw, draws_in_order}
use Rattle.matching.specs.Drawn.{SerialsRise, Member, FromMatch, InOrder, units_drawn, Drawn}
use Rattle.matching.proofs.Sums.{sum_of_same, sum_of_draws, gives_most}

-- by place in the list
pub all_member : {X : Type 0} (P : X → Type 0) (xs : List X) (x : X) → AllByRecursion P xs → Member xs x → P x
all_member P [] x all h = absurd h
all_member P (y ∷ ys) x all h = ⊎_elim (λ (e : y ≡ x). subst P e all.0) (λ (r : Member ys x). all_member P ys x all.1 r) h

pub all_from_member : {X : Type 0} (P : X → Type 0) (xs : List X) → ((x : X) → Member xs x → P x) → AllByRecursion P xs
all_from_member P [] f = tt
all_from_member P (x ∷ xs) f = (f x (inl refl), all_from_member P xs (λ y h. f y (inr h)))

sum_of_le : (f g : LotRow → ℕ) → ((r : LotRow) → f r ≤ g r) → (xs : List LotRow) → sum_of f xs ≤ sum_of g xs
sum_of_le f g h [] = omega arith
sum_of_le f g h (x ∷ xs) = let a = h x in let ih = sum_of_le f g h xs in omega arith

-- where one element makes a difference
sum_of_gap : (f g : LotRow → ℕ) (n : ℕ) → ((r : LotRow) → f r ≤ g r) → (xs : List LotRow) (a : LotRow) → Member xs a → f a + n ≤ g a → sum_of f xs + n ≤ sum_of g xs
sum_of_gap f g n h [] a m e = absurd m
sum_of_gap f g n h (x ∷ xs) a m e =
    let here = h x in
    let le = sum_of_le f g h xs in
    let ih = λ (q : Member xs a). sum_of_gap f g n h xs a q e in
    grind arith

-- the matching lots in order
abbrev pub insert : (LotRow → LotRow → Bool) → LotRow → List LotRow → List LotRow
insert lt r [] = r ∷ []
insert lt r (x ∷ xs) = cond (lt r x) (r ∷ x ∷ xs) (x ∷ insert lt r xs)

abbrev pub sorted : (LotRow → Bool) → (LotRow → LotRow → Bool) → List LotRow → List LotRow
sorted M lt [] = []
sorted M lt (r ∷ rs) = cond (M r) (insert lt r (sorted M lt rs)) (sorted M lt rs)

abbrev pub Ordered : (LotRow → LotRow → Bool) → List LotRow → Type 0
Ordered lt [] = Unit {0}
Ordered lt (r ∷ rs) = AllByRecursion (λ s. lt r s ≡ true) rs × Ordered lt rs

sum_of_inserted : (lt : LotRow → LotRow → Bool) (f : LotRow → ℕ) (r : LotRow) (xs : List LotRow) → sum_of f (insert lt r xs) ≡ f r + sum_of f xs
sum_of_inserted lt f r [] = refl
sum_of_inserted lt f r (x ∷ xs) =
    let ih = sum_of_inserted lt f r xs in
    grind arith

sum_of_sorted : (M : LotRow → Bool) (lt : LotRow → LotRow → Bool) (f : LotRow → ℕ) (xs : List LotRow) → sum_of f (sorted M lt xs) ≡ sum_of (λ r. cond (M r) (f r) 0) xs
sum_of_sorted M lt f [] = refl
sum_of_sorted M lt f (r ∷ rs) =
    let ih = sum_of_sorted M lt f rs in
    let i = sum_of_inserted lt f r (sorted M lt rs) in
    grind arith

all_insert : (P : LotRow → Type 0) (lt : LotRow → LotRow → Bool) (r : LotRow) (xs : List LotRow) → P r → AllByRecursion P xs → AllByRecursion P (insert lt r xs)
all_insert P lt r [] p all = (p, tt)
all_insert P lt r (x ∷ xs) p all = let ih = all_insert P lt r xs p all.1 in grind arith

all_sorted : (P : LotRow → Type 0) (M : LotRow → Bool) (lt : LotRow → LotRow → Bool) (xs : List LotRow) → AllByRecursion P xs → AllByRecursion P (sorted M lt xs)
all_sorted P M lt [] all = tt
all_sorted P M lt (r ∷ rs) all =
    let ih = all_sorted P M lt rs all.1 in
    let more = all_insert P lt r (sorted M lt rs) all.0 ih in
    grind arith

sum_of_same_all : (f g : LotRow → ℕ) (xs : List LotRow) → AllByRecursion (λ r. f r ≡ g r) xs → sum_of f xs ≡ sum_of g xs
sum_of_same_all f g [] all = refl
sum_of_same_all f g (x ∷ xs) all = let h = all.0 in let ih = sum_of_same_all f g xs all.1 in omega arith

pub sum_of_zero_all : (f : LotRow → ℕ) (xs : List LotRow) → AllByRecursion (λ r. f r ≡ 0) xs → sum_of f xs ≡ 0
sum_of_zero_all f [] all = refl
sum_of_zero_all f (x ∷ xs) all = let h = all.0 in let ih = sum_of_zero_all f xs all.1 in omega arith

-- one lot of each serial
sum_of_one : (f : LotRow → ℕ) (xs : List LotRow) (r : LotRow) → SerialsRise xs → Member xs r → sum_of (λ y. cond (eqb y.serial r.serial) (f y) 0) xs ≡ f r
sum_of_one f [] r ri m = absurd m
sum_of_one f (x ∷ xs) r ri m =
    let none = λ (e : x ≡ r). sum_of_zero_all (λ y. cond (eqb y.serial r.serial) (f y) 0) xs (All-weaker (λ y. x.serial < y.serial) (λ y. cond (eqb y.serial r.serial) (f y) 0 ≡ 0) (λ y l. grind (arith, nat_tests)) xs ri.0) in
    let below = all_member (λ y. x.serial < y.serial) xs r ri.0 in
    let ih = sum_of_one f xs r ri.1 in
    grind (arith, nat_tests)

-- draws
all_insert_draw : (P : Draw → Type 0) (lt : LotRow → LotRow → Bool) (d : Draw) (ds : List Draw) → P d → AllByRecursion P ds → AllByRecursion P (insert_draw lt d ds)
all_insert_draw P lt d [] p all = (p, tt)
all_insert_draw P lt d (e ∷ es) p all = let ih = all_insert_draw P lt d es p all.1 in grind arith

pub all_draws : (P : Draw → Type 0) (lt : LotRow → LotRow → Bool) (g : LotRow → ℕ) (xs : List LotRow) → AllByRecursion (λ r. (g r ≡ 0 → ⊥) → P (record { lot = r; units = g r })) xs → AllByRecursion P (draws_in_order lt g xs)
all_draws P lt g [] all = tt
all_draws P lt g (r ∷ rs) all =
    let ih = all_draws P lt g rs all.1 in
    let here = all.0 in
    let more = all_insert_draw P lt (record { lot = r; units = g r }) (draws_in_order lt g rs) in
    grind (arith, nat_tests)

member_insert_here : (lt : LotRow → LotRow → Bool) (d : Draw) (ds : List Draw) → Member (insert_draw lt d ds) d
member_insert_here lt d [] = inl refl
member_insert_here lt d (e ∷ es) = let ih = member_insert_here lt d es in grind arith

member_insert_there : (lt : LotRow → LotRow → Bool) (d x : Draw) (ds : List Draw) → Member ds x → Member (insert_draw lt d ds) x
member_insert_there lt d x [] m = absurd m
member_insert_there lt d x (e ∷ es) m =
    let ih = member_insert_there lt d x es in
    grind arith

member_draws : (lt : LotRow → LotRow → Bool) (g : LotRow → ℕ) (xs : List LotRow) (a : LotRow) → Member xs a → (g a ≡ 0 → ⊥) → Member (draws_in_order lt g xs) (record { lot = a; units = g a })
member_draws lt g [] a m ne = absurd m
member_draws lt g (r ∷ rs) a m ne =
    let d : Draw = record { lot = r; units = g r } in
    let ih = λ (q : Member rs a). member_draws lt g rs a q ne in
    let first = member_insert_here lt d (draws_in_order lt g rs) in
    let later = member_insert_there lt d (record { lot = a; units = g a }) (draws_in_order lt g rs) in
    grind (arith, nat_tests)

pub left_same : (f g : LotRow → ℕ) (xs : List LotRow) → AllByRecursion (λ r. f r ≡ g r) xs → lots_left f xs ≡ lots_left g xs
left_same f g [] all = refl
left_same f g (r ∷ rs) all = let here = all.0 in let ih = left_same f g rs all.1 in cc

module _ (M : LotRow → Bool) (lt : LotRow → LotRow → Bool)
    (irr : (a : LotRow) → lt a a ≡ false) (trans : (a b c : LotRow) → lt a b ≡ true → lt b c ≡ true → lt a c ≡ true)
    (one : (a b : LotRow) → (a.serial ≡ b.serial → ⊥) → lt a b ≡ not (lt b a)) where
  -- of a matching lot that comes before another: the units before it and its own are all before the other one
  units_before_gap : (xs : List LotRow) (a b : LotRow) → Member xs a → M a ≡ true → lt a b ≡ true → units_before M lt xs a + a.units ≤ units_before M lt xs b
  units_before_gap xs a b there fits before =
      sum_of_gap (units_if (λ y. M y && lt y a)) (units_if (λ y. M y && lt y b)) a.units
      (λ r. let t = trans r a b in grind arith)
      xs a there
      (let i = irr a in grind arith)

  ordered_insert : (r : LotRow) (xs : List LotRow) → AllByRecursion (λ s. r.serial ≡ s.serial → ⊥) xs → Ordered lt xs → Ordered lt (insert lt r xs)
  ordered_insert r [] apart o = (tt, tt)
  ordered_insert r (x ∷ xs) apart o =
      cond_both (lt r x) (r ∷ x ∷ xs) (x ∷ insert lt r xs) (λ ys. Ordered lt ys)
      (λ e. ((e, All-weaker (λ s. lt x s ≡ true) (λ s. lt r s ≡ true) (λ s l. trans r x s e l) xs o.0), o))
      (λ e. (all_insert (λ s. lt x s ≡ true) lt r xs (one x r (λ q. apart.0 (sym q)) ∙ ap not e) o.0, ordered_insert r xs apart.1 o.1))

  pub ordered_sorted : (xs : List LotRow) → SerialsRise xs → Ordered lt (sorted M lt xs)
  ordered_sorted [] ri = tt
  ordered_sorted (r ∷ rs) ri =
      let ih = ordered_sorted rs ri.1 in
      let more = ordered_insert r (sorted M lt rs) (all_sorted (λ s. r.serial ≡ s.serial → ⊥) M lt rs (All-weaker (λ s. r.serial < s.serial) (λ s. r.serial ≡ s.serial → ⊥) (λ s l q. omega arith) rs ri.0)) ih in
      grind arith

  given_in_order : (zs : List LotRow) (u : ℕ) → Ordered lt zs → sum_of (λ r. min r.units (u - sum_of (λ y. cond (lt y r) y.units 0) zs)) zs ≡ min u (sum_of (λ r. r.units) zs)
  given_in_order [] u o = omega arith
  given_in_order (z ∷ zs) u o =
      let ih = given_in_order zs (u - z.units) o.1 in
      let i = irr z in
      let later = sum_of_zero_all (λ y. cond (lt y z) y.units 0) zs (All-weaker (λ y. lt z y ≡ true) (λ y. cond (lt y z) y.units 0 ≡ 0)
      (λ y l. let t = trans z y z l in grind arith) zs o.0) in
      let rest = sum_of_same_all (λ r. min r.units (u - sum_of (λ y. cond (lt y r) y.units 0) (z ∷ zs))) (λ r. min r.units (u - z.units - sum_of (λ y. cond (lt y r) y.units 0) zs)) zs
      (All-weaker (λ r. lt z r ≡ true) (λ r. min r.units (u - sum_of (λ y. cond (lt y r) y.units 0) (z ∷ zs)) ≡ min r.units (u - z.units - sum_of (λ y. cond (lt y r) y.units 0) zs))
      (λ r l. grind arith) zs o.0) in
      grind arith

  units_before_sorted : (xs : List LotRow) (r : LotRow) → sum_of (λ y. cond (lt y r) y.units 0) (sorted M lt xs) ≡ units_before M lt xs r
  units_before_sorted xs r =
      sum_of_sorted M lt (λ y. cond (lt y r) y.units 0) xs
      ∙ sum_of_same (λ y. cond (M y) (cond (lt y r) y.units 0) 0) (units_if (λ y. M y && lt y r)) (λ y. grind arith) xs

  gives_all : (xs : List LotRow) (u : ℕ) → SerialsRise xs → sum_of (gives M lt u xs) xs ≡ min u (units_matching M xs)
  gives_all xs u ri =
      let a = sum_of_sorted M lt (λ r. min r.units (u - units_before M lt xs r)) xs in
      let b = sum_of_same (λ r. min r.units (u - sum_of (λ y. cond (lt y r) y.units 0) (sorted M lt xs))) (λ r. min r.units (u - units_before M lt xs r)) (λ r. ap (λ (n : ℕ). min r.units (u - n)) (units_before_sorted xs r)) (sorted M lt xs) in
      let c = given_in_order (sorted M lt xs) u (ordered_sorted xs ri) in
      let d = sum_of_sorted M lt (λ r. r.units) xs in
      omega arith

  module _ (u : ℕ) (xs : List LotRow) (ri : SerialsRise xs) (some : AllByRecursion (λ r. 1 ≤ r.units) xs) (enough : u ≤ units_matching M xs) where
    exactly_u : sum_of (λ d. d.units) (draws_in_order lt (gives M lt u xs) xs) ≡ u
    exactly_u =
        let a = sum_of_draws (λ d. d.units) lt (gives M lt u xs) (λ r z. z) xs in
        let b = gives_all xs u ri in
        omega arith

    fits_if : (r : LotRow) → (gives M lt u xs r ≡ 0 → ⊥) → M r ≡ true
    fits_if r ne = grind arith

    all_from_matches : AllByRecursion (FromMatch M xs) (draws_in_order lt (gives M lt u xs) xs)
    all_from_matches = all_draws (FromMatch M xs) lt (gives M lt u xs) xs (all_from_member (λ r. (gives M lt u xs r ≡ 0 → ⊥) → FromMatch M xs (record { lot = r; units = gives M lt u xs r })) xs
        (λ r there ne. record { there = there; fits = fits_if r ne; some = omega arith; most = gives_most M lt u xs r }))

    order_insert : (d : Draw) (ds : List Draw) → AllByRecursion (λ e. d.lot.serial ≡ e.lot.serial → ⊥) ds → InOrder lt ds → InOrder lt (insert_draw lt d ds)
    order_insert d [] apart o = (tt, tt)
    order_insert d (e ∷ es) apart o =
        cond_both (lt d.lot e.lot) (d ∷ e ∷ es) (e ∷ insert_draw lt d es) (λ ys. InOrder lt ys)
        (λ b. ((b, All-weaker (λ s. lt e.lot s.lot ≡ true) (λ s. lt d.lot s.lot ≡ true) (λ s l. trans d.lot e.lot s.lot b l) es o.0), o))
        (λ b. (all_insert_draw (λ s. lt e.lot s.lot ≡ true) lt d es (one e.lot d.lot (λ q. apart.0 (sym q)) ∙ ap not b) o.0, order_insert d es apart.1 o.1))

    order_draws : (g : LotRow → ℕ) (ys : List LotRow) → SerialsRise ys → InOrder lt (draws_in_order lt g ys)
    order_draws g [] r = tt
    order_draws g (y ∷ ys) r =
        let ih = order_draws g ys r.1 in
        let more = order_insert (record { lot = y; units = g y }) (draws_in_order lt g ys) (all_draws (λ e. y.serial ≡ e.lot.serial → ⊥) lt g ys (All-weaker (λ s. y.serial < s.serial) (λ s. (g s ≡ 0 → ⊥) → y.serial ≡ s.serial → ⊥) (λ s l _ q. omega arith) ys r.0)) ih in
        grind arith

    pub emptied : (r a : LotRow) → (gives M lt u xs r ≡ 0 → ⊥) → Member xs a → M a ≡ true → lt a r ≡ true → gives M lt u xs a ≡ a.units
    emptied r a ne there fits before =
        let gap = units_before_gap xs a r there fits before in
        grind arith

    all_emptied : AllByRecursion (λ d. (a : LotRow) → Member xs a → M a ≡ true → lt a d.lot ≡ true → Member (draws_in_order lt (gives M lt u xs) xs) (record { lot = a; units = a.units })) (draws_in_order lt (gives M lt u xs) xs)
    all_emptied = all_draws (λ d. (a : LotRow) → Member xs a → M a ≡ true → lt a d.lot ≡ true → Member (draws_in_order lt (gives M lt u xs) xs) (record { lot = a; units = a.units })) lt (gives M lt u xs) xs
        (all_from_member (λ r. (gives M lt u xs r ≡ 0 → ⊥) → (a : LotRow) → Member xs a → M a ≡ true → lt a r ≡ true → Member (draws_in_order lt (gives M lt u xs) xs) (record { lot = a; units = a.units })) xs
        (λ r _ ne a there fits before.
        let e = emptied r a ne there fits before in
        let n = all_member (λ s. 1 ≤ s.units) xs a some there in
        subst (λ (n : ℕ). Member (draws_in_order lt (gives M lt u xs) xs) (record { lot = a; units = n })) e (member_draws lt (gives M lt u xs) xs a there (λ z. omega arith))))

    drawn_is_given : (r : LotRow) → Member xs r → gives M lt u xs r ≡ units_drawn (draws_in_order lt (gives M lt u xs) xs) r
    drawn_is_given r there =
        let g = gives M lt u xs in
        sym (sum_of_draws (λ d. cond (eqb d.lot.serial r.serial) d.units 0) lt g (λ y z. grind arith) xs ∙ sum_of_one g xs r ri there)

    pub closed_form_is_drawn : Drawn M lt u xs (lots_left (gives M lt u xs) xs) (draws_in_order lt (gives M lt u xs) xs)
    closed_form_is_drawn = record {
      exactly = exactly_u;
      from_matches = all_from_matches;
      in_order = order_draws (gives M lt u xs) xs ri;
      emptied_before = all_emptied;
      nothing_else = left_same (gives M lt u xs) (units_drawn (draws_in_order lt (gives M lt u xs) xs)) xs (all_from_member (λ r. gives M lt u xs r ≡ units_drawn (draws_in_order lt (gives M lt u xs) xs) r) xs drawn_is_given);
    }
