-- The earliest matching lot: what the closed form names is what the relation says, and there is one.
use Rattle.std.proofs.lemmas.Bool.Decides.{nat_tests}
use Rattle.std.proofs.Common.{◌≡◌, ℕ, zero, suc, ◌<◌, ◌≤◌, Bool, true, false, not, List, [], ◌∷◌, length, get_or, Some, None, Option, refl, ap, ◌∙◌, inl, inr, arith}
use Rattle.std.specs.List.{AllByRecursion}
use Rattle.std.proofs.ByRecursion.{All-from_get_or}
use Rattle.lots.specs.declared.rows.LotRow.{LotRow}
use Rattle.lots.specs.Rows.{no_lot}
use Rattle.lots.specs.Orders.{Order, Keeps}
use Rattle.matching.specs.Matching.{units_matching}
use Rattle.matching.specs.Places.{NoneMatch, EarliestAt}
use Rattle.matching.specs.Drawing.{earlier, earliest, settled_with, settled, question}
use Rattle.matching.specs.Drawn.{SerialsRise, Member, Earliest, Unsettled}
use Rattle.matching.proofs.Drawing.{all_member}

-- the earliest matching lot, if one matches
abbrev Best : (LotRow → Bool) → (LotRow → LotRow → Bool) → List LotRow → Option LotRow → Type 0
Best M lt xs None = AllByRecursion (λ r. M r ≡ false) xs
Best M lt xs (Some b) = Earliest M lt xs b

member_same : (xs : List LotRow) → SerialsRise xs → (a b : LotRow) → Member xs a → Member xs b → a.serial ≡ b.serial → a ≡ b
member_same [] ri a b m n e = absurd m
member_same (x ∷ xs) ri a b m n e =
    let below_a = all_member (λ s. x.serial < s.serial) xs a ri.0 in
    let below_b = all_member (λ s. x.serial < s.serial) xs b ri.0 in
    let ih = member_same xs ri.1 a b in
    grind arith

module _ (M : LotRow → Bool) (lt : LotRow → LotRow → Bool)
    (irr : (a : LotRow) → lt a a ≡ false) (trans : (a b c : LotRow) → lt a b ≡ true → lt b c ≡ true → lt a c ≡ true)
    (one : (a b : LotRow) → (a.serial ≡ b.serial → ⊥) → lt a b ≡ not (lt b a)) where
  best_matching : (r : LotRow) (rs : List LotRow) → M r ≡ true → (e : Option LotRow) → Best M lt rs e → Best M lt (r ∷ rs) (earlier lt r e)
  best_matching r rs m None all = record { there = inl refl; fits = m; least = λ a there fits. let own = irr r in let other = all_member (λ s. M s ≡ false) rs a all in grind arith }
  best_matching r rs m (Some b) best = grind (arith, nat_tests)

  best_other : (r : LotRow) (rs : List LotRow) → M r ≡ false → (e : Option LotRow) → Best M lt rs e → Best M lt (r ∷ rs) e
  best_other r rs m None all = (m, all)
  best_other r rs m (Some b) best = grind (arith, nat_tests)

  best_is : (xs : List LotRow) → Best M lt xs (earliest M lt xs)
  best_is [] = tt
  best_is (r ∷ rs) =
      let first = λ (m : M r ≡ true). best_matching r rs m (earliest M lt rs) (best_is rs) in
      let other = λ (m : M r ≡ false). best_other r rs m (earliest M lt rs) (best_is rs) in
      grind arith

  earliest_same : (xs : List LotRow) → SerialsRise xs → (a b : LotRow) → Earliest M lt xs a → Earliest M lt xs b → a ≡ b
  earliest_same xs ri a b p q =
      let same = member_same xs ri a b p.there q.there in
      let lower = q.least a p.there p.fits in
      let upper = p.least b q.there q.fits in
      let o = one a b in
      grind arith

  -- the policy's answer is its answer for the earliest lot
  unsettled_at : (f : LotRow → Bool) (xs : List LotRow) → (e : Option LotRow) → Best M lt xs e → settled_with f e ≡ false → (r : LotRow) × Earliest M lt xs r × (f r ≡ false)
  unsettled_at f xs None all a = cc
  unsettled_at f xs (Some b) best a = (b, best, a)

  answer_at : (f : LotRow → Bool) (xs : List LotRow) → SerialsRise xs → (r : LotRow) → Earliest M lt xs r → (e : Option LotRow) → Best M lt xs e → settled_with f e ≡ f r
  answer_at f xs ri r first None all = let other = all_member (λ s. M s ≡ false) xs r all first.there in let fits = first.fits in cc
  answer_at f xs ri r first (Some b) best = ap f (earliest_same xs ri b r best first)

member_at : (xs : List LotRow) (i : ℕ) → i < length xs → Member xs (get_or xs i no_lot)
member_at [] i h = absurd (omega arith)
member_at (x ∷ xs) zero h = inl refl
member_at (x ∷ xs) (suc i) h = inr (member_at xs i (omega arith))

-- the lot at the place that was found
pub earliest_at : (M : LotRow → Bool) (lt : LotRow → LotRow → Bool) (xs : List LotRow) (i : ℕ) → EarliestAt M lt xs (length xs) i → Earliest M lt xs (get_or xs i no_lot)
earliest_at M lt xs i e = record {
  there = member_at xs i e.within;
  fits = e.fits;
  least = λ a there fits. all_member (λ r. M r ≡ true → lt r (get_or xs i no_lot) ≡ false) xs a (All-from_get_or (λ r. M r ≡ true → lt r (get_or xs i no_lot) ≡ false) xs no_lot e.least) there fits;
}

none_earliest : (M : LotRow → Bool) (lt : LotRow → LotRow → Bool) (xs : List LotRow) → AllByRecursion (λ r. M r ≡ false) xs → earliest M lt xs ≡ None
none_earliest M lt [] all = refl
none_earliest M lt (r ∷ rs) all = let here = all.0 in let ih = none_earliest M lt rs all.1 in cc

module _ (o : Order) (keeps : Keeps o) (M : LotRow → Bool) (u : ℕ) (xs : List LotRow) where
  best : Best M (o.before u) xs (earliest M (o.before u) xs)
  best = best_is M (o.before u) (keeps.irreflexive u) (keeps.transitive u) (keeps.exactly_one u) xs

  -- by the place that was found
  pub settled_at : SerialsRise xs → (i : ℕ) → EarliestAt M (o.before u) xs (length xs) i → settled o M u xs ≡ o.settles (question u M xs (get_or xs i no_lot))
  settled_at ri i e =
      answer_at M (o.before u) (keeps.irreflexive u) (keeps.transitive u) (keeps.exactly_one u) (λ r. o.settles (question u M xs r)) xs ri (get_or xs i no_lot) (earliest_at M (o.before u) xs i e) (earliest M (o.before u) xs) best

  pub settled_none : NoneMatch M xs (length xs) → settled o M u xs ≡ true
  settled_none none =
      ap (settled_with (λ r. o.settles (question u M xs r))) (none_earliest M (o.before u) xs (All-from_get_or (λ r. M r ≡ false) xs no_lot none))

  -- both ways
  pub unsettled_from : u ≤ units_matching M xs → settled o M u xs ≡ false → Unsettled o M u xs
  unsettled_from enough e =
      (enough, unsettled_at M (o.before u) (keeps.irreflexive u) (keeps.transitive u) (keeps.exactly_one u) (λ r. o.settles (question u M xs r)) xs (earliest M (o.before u) xs) best e)

  pub unsettled_to : SerialsRise xs → Unsettled o M u xs → settled o M u xs ≡ false
  unsettled_to ri h =
      let r = h.1.0 in
      answer_at M (o.before u) (keeps.irreflexive u) (keeps.transitive u) (keeps.exactly_one u) (λ r. o.settles (question u M xs r)) xs ri r h.1.1 (earliest M (o.before u) xs) best ∙ h.1.2
