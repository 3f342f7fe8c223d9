-- The earliest matching lot, one place after another.
use Rattle.std.proofs.Common.{◌≡◌, ℕ, suc, ◌+◌, ◌<◌, Bool, true, false, cond, List, [], ◌∷◌, length, get_or, Some, None, Option, ap, ◌∙◌, subst, arith, below_more}
use Rattle.std.specs.List.{enumerate_from, filter, fold, reduce}
use Rattle.std.specs.Option.{option_map}
use Rattle.std.proofs.lemmas.Bool.{cond_both}
use Rattle.lots.specs.declared.rows.LotRow.{LotRow}
use Rattle.lots.specs.Rows.{no_lot}
use Rattle.matching.specs.Places.{NoneMatch, EarliestAt, Found}

module _ (M : LotRow → Bool) (lt : LotRow → LotRow → Bool) (xs : List LotRow) (n : ℕ) where
  -- the best so far stays
  pub stays : (b : ℕ) → EarliestAt M lt xs n b → (M (get_or xs n no_lot) ≡ true → lt (get_or xs n no_lot) (get_or xs b no_lot) ≡ false) → EarliestAt M lt xs (n + 1) b
  stays b e new = let w = e.within in record { within = omega arith; fits = e.fits; least = below_more (λ k. M (get_or xs k no_lot) ≡ true → lt (get_or xs k no_lot) (get_or xs b no_lot) ≡ false) n e.least new }

  -- the lot at n does not match
  pub skipped : (best : Option ℕ) → M (get_or xs n no_lot) ≡ false → Found M lt xs n best → Found M lt xs (n + 1) best
  skipped None f none = below_more (λ k. M (get_or xs k no_lot) ≡ false) n none f
  skipped (Some b) f e = stays b e (λ m. cc)

  module _ (irr : (a : LotRow) → lt a a ≡ false) (fits : M (get_or xs n no_lot) ≡ true) where
    at_n : ((k : ℕ) → k < n → M (get_or xs k no_lot) ≡ true → lt (get_or xs k no_lot) (get_or xs n no_lot) ≡ false) → EarliestAt M lt xs (n + 1) n
    at_n below = record { within = omega arith; fits = fits; least = below_more (λ k. M (get_or xs k no_lot) ≡ true → lt (get_or xs k no_lot) (get_or xs n no_lot) ≡ false) n below (λ m. irr (get_or xs n no_lot)) }

    -- it is the first that matches
    pub first_match : NoneMatch M xs n → EarliestAt M lt xs (n + 1) n
    first_match none = at_n (λ k l m. let other = none k l in cc)

    -- it comes before the best so far
    pub overtakes : ((a b c : LotRow) → lt a b ≡ true → lt b c ≡ true → lt a c ≡ true) → (b : ℕ) → EarliestAt M lt xs n b → lt (get_or xs n no_lot) (get_or xs b no_lot) ≡ true → EarliestAt M lt xs (n + 1) n
    overtakes trans b e l =
        at_n (λ k h m. let least = e.least k h m in let t = trans (get_or xs k no_lot) (get_or xs n no_lot) (get_or xs b no_lot) in grind arith)

-- By a chain over the lots with their places: of those that match, the one that none of them comes before.
module _ (M : LotRow → Bool) (lt : LotRow → LotRow → Bool) where
  abbrev pub matching_from : ℕ → List LotRow → List (ℕ × LotRow)
  matching_from n lots = filter (λ q. M q.1) (enumerate_from n lots)

  abbrev pub earlier_of : ℕ × LotRow → ℕ × LotRow → ℕ × LotRow
  earlier_of p q = cond (lt q.1 p.1) q p

  module _ (irr : (a : LotRow) → lt a a ≡ false) (trans : (a b c : LotRow) → lt a b ≡ true → lt b c ≡ true → lt a c ≡ true) (lots : List LotRow) where
    -- xs are the lots from place n on
    abbrev Rest : ℕ → List LotRow → Type 0
    Rest n xs = (k : ℕ) → k < length xs → get_or xs k no_lot ≡ get_or lots (n + k) no_lot

    here : (n : ℕ) (x : LotRow) (xs : List LotRow) → Rest n (x ∷ xs) → x ≡ get_or lots n no_lot
    here n x xs at = let same : n + 0 ≡ n = omega arith in at 0 (omega arith) ∙ ap (λ i. get_or lots i no_lot) same

    behind : (n : ℕ) (x : LotRow) (xs : List LotRow) → Rest n (x ∷ xs) → Rest (n + 1) xs
    behind n x xs at k h = let same : n + suc k ≡ n + 1 + k = omega arith in at (suc k) (omega arith) ∙ ap (λ i. get_or lots i no_lot) same

    -- the best so far at place p.0, and the lots from place n on
    further : (xs : List LotRow) (n m : ℕ) → n + length xs ≡ m → Rest n xs → (p : ℕ × LotRow) → p.1 ≡ get_or lots p.0 no_lot → EarliestAt M lt lots n p.0
        → EarliestAt M lt lots m (fold earlier_of p (matching_from n xs)).0
    further [] n m s at p is e = subst (λ k. EarliestAt M lt lots k p.0) (omega arith) e
    further (x ∷ xs) n m s at p is e =
        let x_is = here n x xs at in
        let rest = behind n x xs at in
        let kept = matching_from (n + 1) xs in
        let next = cond_both (lt x p.1) (n, x) p (λ (q : ℕ × LotRow). M x ≡ true → (q.1 ≡ get_or lots q.0 no_lot) × EarliestAt M lt lots (n + 1) q.0)
        (λ before fits. (x_is, overtakes M lt lots n irr (cc) trans p.0 e (cc)))
        (λ after fits. (is, stays M lt lots n p.0 e (λ _. (cc)))) in
        cond_both (M x) ((n, x) ∷ kept) kept (λ (ys : List (ℕ × LotRow)). EarliestAt M lt lots m (fold earlier_of p ys).0)
        (λ fits. further xs (n + 1) m (omega arith) rest (earlier_of p (n, x)) (next fits).0 (next fits).1)
        (λ other. further xs (n + 1) m (omega arith) rest p is (skipped M lt lots n (Some p.0) (cc) e))

    found_from : (xs : List LotRow) (n m : ℕ) → n + length xs ≡ m → Rest n xs → NoneMatch M lots n → Found M lt lots m (option_map (λ p. p.0) (reduce earlier_of (matching_from n xs)))
    found_from [] n m s at none = subst (λ k. NoneMatch M lots k) (omega arith) none
    found_from (x ∷ xs) n m s at none =
        let x_is = here n x xs at in
        let rest = behind n x xs at in
        let kept = matching_from (n + 1) xs in
        cond_both (M x) ((n, x) ∷ kept) kept (λ (ys : List (ℕ × LotRow)). Found M lt lots m (option_map (λ p. p.0) (reduce earlier_of ys)))
        (λ fits. further xs (n + 1) m (omega arith) rest (n, x) x_is (first_match M lt lots n irr (cc) none))
        (λ other. found_from xs (n + 1) m (omega arith) rest (skipped M lt lots n None (cc) none))

    pub found_by_chain : Found M lt lots (length lots) (option_map (λ p. p.0) (reduce earlier_of (matching_from 0 lots)))
    found_by_chain = found_from lots 0 (length lots) (omega arith) (λ k h. let same : k ≡ 0 + k = omega arith in ap (λ i. get_or lots i no_lot) same) (λ k h. absurd (omega arith))
