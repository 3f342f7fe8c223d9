-- A filled blank makes the weights sum to 0, and changes nothing else.
use Rattle.std.proofs.lemmas.Bool.Decides.{nat_tests}
use Rattle.std.proofs.Common.{◌≡◌, ℕ, zero, suc, ◌≤◌, Bool, true, false, cond, not, ◌&&◌, eqb, ◌⊎◌, List, [], ◌∷◌, ℤ, pos, ◌+ℤ◌, ◌*ℤ◌, Option, sym, refl, ap, ◌∙◌, subst, inl, inr, ⊎_elim, arith}
use Rattle.std.specs.List.{AllByRecursion}
use Rattle.std.proofs.lemmas.Int.{ints}
use Rattle.std.proofs.lemmas.Bool.{false≢true, and_parts, cond-true, cond-false, cond_both, cases_eq, cases_Bool, eq-eqb, ne_eqb, both_ways, not-false}
use Rattle.values.specs.Amounts.{is_amount}
use Rattle.matching.specs.Sums.{sum_of, sum_of_ints}
use Rattle.matching.specs.Drawn.{Member}
use Rattle.matching.proofs.Sums.{by_bool}
use Rattle.booking.specs.declared.entry.Entry.{Entry}
use Rattle.booking.specs.declared.entry.EntryKind.{EntryKind}
use Rattle.booking.specs.declared.entry.EntryKind.TheVariants.{Unfilled, Filled}
use Rattle.booking.specs.Weighing.{weight_sum, is_zero, unbalanced, unbalanced_in, is_empty, is_unfilled, has_blank, filled_with, fill, blank_amount, is_whole, own_agrees, can_fill, filled_by, complete}
use Rattle.booking.proofs.Filling.{blank_balances}
use Rattle.law.proofs.Stocks.{lots_weight, lots_weight_sum}
use Rattle.law.proofs.Plains.{KindThere, EntryThere, in_commodity}

pub zero_is : (z : ℤ) → is_zero z ≡ true → z ≡ pos 0
zero_is (pos zero) e = refl
zero_is _ e = absurd (false≢true e)

-- Filling, entry by entry. A fact of each kind that holds of a filled blank as of the blank carries over.

module _ (z : ℤ) (c : ℕ) where
  pub fill_sum : (f : EntryKind → ℕ) → ((a : ℕ) → f (Filled a z c) ≡ f (Unfilled a)) → (es : List Entry) → sum_of (λ e. f e.kind) (fill z c es) ≡ sum_of (λ e. f e.kind) es
  fill_sum f same [] = refl
  fill_sum f same (e ∷ es) =
      let ih = fill_sum f same es in
      let s = kinds e.kind in
      grind arith
    where
      kinds : (kind : EntryKind) → f (filled_with z c kind) ≡ f kind
      kinds (Unfilled account) = same account
      kinds _ = refl

  pub fill_sum_ints : (f : EntryKind → ℤ) → ((a : ℕ) → f (Filled a z c) ≡ f (Unfilled a)) → (es : List Entry) → sum_of_ints (λ e. f e.kind) (fill z c es) ≡ sum_of_ints (λ e. f e.kind) es
  fill_sum_ints f same [] = refl
  fill_sum_ints f same (e ∷ es) =
      let ih = fill_sum_ints f same es in
      let s = kinds e.kind in
      grind (arith, ints)
    where
      kinds : (kind : EntryKind) → f (filled_with z c kind) ≡ f kind
      kinds (Unfilled account) = same account
      kinds _ = refl

  pub fill_all : (P : EntryKind → Type 0) → ((a : ℕ) → P (Unfilled a) → P (Filled a z c)) → (es : List Entry) → AllByRecursion (λ e. P e.kind) es → AllByRecursion (λ e. P e.kind) (fill z c es)
  fill_all P fills [] all = tt
  fill_all P fills (e ∷ es) all =
      cond_both (is_unfilled e.kind) (record { line = e.line; kind = filled_with z c e.kind } ∷ es) (e ∷ fill z c es) (λ xs. AllByRecursion (λ e. P e.kind) xs)
      (λ _. (kinds e.kind all.0, all.1)) (λ _. (all.0, fill_all P fills es all.1))
    where
      kinds : (kind : EntryKind) → P kind → P (filled_with z c kind)
      kinds (Unfilled account) p = fills account p
      kinds _ p = p

  -- the first blank weighs what it is filled with
  fill_weight : (d : ℕ) (es : List Entry) → weight_sum (fill z c es) d ≡ weight_sum es d +ℤ cond (has_blank es) (in_commodity d c (z *ℤ pos 100)) (pos 0)
  fill_weight d [] = refl
  fill_weight d (e ∷ es) = kinds (fill_weight d es) e.line e.kind
    where
      kinds : weight_sum (fill z c es) d ≡ weight_sum es d +ℤ cond (has_blank es) (in_commodity d c (z *ℤ pos 100)) (pos 0) → (line : ℕ) (kind : EntryKind)
          → weight_sum (fill z c (record { line = line; kind = kind } ∷ es)) d ≡ weight_sum (record { line = line; kind = kind } ∷ es) d +ℤ cond (has_blank (record { line = line; kind = kind } ∷ es)) (in_commodity d c (z *ℤ pos 100)) (pos 0)
      kinds ih line (Unfilled account) = omega (arith, ints)
      kinds ih line _ = omega (arith, ints)

-- Commodities out of balance.

-- a commodity's sum is 0, or it is one of those out of balance
balanced_or_listed : (sum : ℕ → ℤ) (n c : ℕ) → 1 ≤ c → c ≤ n → (sum c ≡ pos 0) ⊎ Member (unbalanced n sum) c
balanced_or_listed sum zero c l m = absurd (omega arith)
balanced_or_listed sum (suc n) c l m =
    by_bool (is_zero (sum (suc n))) (λ (b : Bool). (b ≡ true → sum (suc n) ≡ pos 0) → (sum c ≡ pos 0) ⊎ Member (cond b (unbalanced n sum) (suc n ∷ unbalanced n sum)) c)
    (λ _ even. ⊎_elim (λ (e : c ≡ suc n). inl (ap sum e ∙ even refl)) (λ (ne : c ≡ suc n → ⊥). balanced_or_listed sum n c l (omega arith)) (cases_eq c (suc n)))
    (λ _ even. ⊎_elim
    (λ (e : c ≡ suc n). inr (inl (sym e)))
    (λ (ne : c ≡ suc n → ⊥). ⊎_elim (λ (p : sum c ≡ pos 0). inl p) (λ (q : Member (unbalanced n sum) c). inr (inr q)) (balanced_or_listed sum n c l (omega arith)))
    (cases_eq c (suc n)))
    (λ e. zero_is (sum (suc n)) e)

unbalanced_there : (sum : ℕ → ℤ) (n : ℕ) → AllByRecursion (λ c. (1 ≤ c) × (c ≤ n)) (unbalanced n sum)
unbalanced_there sum zero = tt
unbalanced_there sum (suc n) =
    let wider = widen n (unbalanced n sum) (unbalanced_there sum n) in
    by_bool (is_zero (sum (suc n))) (λ (b : Bool). AllByRecursion (λ c. (1 ≤ c) × (c ≤ suc n)) (cond b (unbalanced n sum) (suc n ∷ unbalanced n sum))) (λ _. wider) (λ _. ((omega arith, omega arith), wider))
  where
    widen : (n : ℕ) (cs : List ℕ) → AllByRecursion (λ c. (1 ≤ c) × (c ≤ n)) cs → AllByRecursion (λ c. (1 ≤ c) × (c ≤ suc n)) cs
    widen n [] all = tt
    widen n (c ∷ cs) all = let h = all.0.1 in ((all.0.0, omega arith), widen n cs all.1)

module _ (own : Option ℕ) (es : List Entry) where
  filled_balances : (us : List ℕ) → ((c : ℕ) → 1 ≤ c → c ≤ 16 → (weight_sum es c ≡ pos 0) ⊎ Member us c)
      → (not (has_blank es) && not (is_empty us)) ≡ false → (has_blank es && not (can_fill own (weight_sum es) us)) ≡ false
      → (c : ℕ) → 1 ≤ c → c ≤ 16 → weight_sum (filled_by us es) c ≡ pos 0
  filled_balances [] listed t25 t26 c l m = ⊎_elim (λ (e : weight_sum es c ≡ pos 0). e) (λ (x : ⊥). absurd x) (listed c l m)
  filled_balances (d ∷ []) listed t25 t26 c l m =
      ⊎_elim
      (λ (hb : has_blank es ≡ true).
      let z = blank_amount (weight_sum es d) in
      let fits : can_fill own (weight_sum es) (d ∷ []) ≡ true = not-false (can_fill own (weight_sum es) (d ∷ [])) (subst (λ (b : Bool). (b && not (can_fill own (weight_sum es) (d ∷ []))) ≡ false) hb t26) in
      let whole = blank_balances (weight_sum es d) (and_parts (is_whole (weight_sum es d)) (is_amount z && own_agrees own d) fits).0 in
      let w = fill_weight z d c es in
      let on = cond-true (has_blank es) (in_commodity c d (z *ℤ pos 100)) (pos 0) hb in
      ⊎_elim
      (λ (e : d ≡ c).
      let at : weight_sum es c ≡ weight_sum es d = ap (weight_sum es) (sym e) in
      let x = cond-true (eqb d c) (z *ℤ pos 100) (pos 0) (eq-eqb d c e) in
      omega (arith, ints))
      (λ (ne : d ≡ c → ⊥).
      let x = cond-false (eqb d c) (z *ℤ pos 100) (pos 0) (ne_eqb d c ne) in
      let other : weight_sum es c ≡ pos 0 = ⊎_elim (λ (e : weight_sum es c ≡ pos 0). e) (⊎_elim (λ (e : d ≡ c). absurd (ne e)) (λ (x : ⊥). absurd x)) (listed c l m) in
      omega (arith, ints))
      (cases_eq d c))
      (λ (hb : has_blank es ≡ false). absurd (both_ways true (subst (λ (b : Bool). (not b && true) ≡ false) hb t25) refl))
      (cases_Bool (has_blank es))
  filled_balances (d ∷ e ∷ us) listed t25 t26 c l m = grind (arith, nat_tests)

  -- a draft that meets neither 25 nor 26 is balanced once its blank is filled
  pub complete_balances : (not (has_blank es) && not (is_empty (unbalanced_in es))) ≡ false → (has_blank es && not (can_fill own (weight_sum es) (unbalanced_in es))) ≡ false
      → (c : ℕ) → 1 ≤ c → c ≤ 16 → weight_sum (complete es) c ≡ pos 0
  unfolding unbalanced_in
  complete_balances t25 t26 c l m = filled_balances (unbalanced_in es) (balanced_or_listed (weight_sum es) 16) t25 t26 c l m

-- Completing, by what filling does.

filled_by_keeps : (P : List Entry → Type 0) (es : List Entry) → P es → ((z : ℤ) (c : ℕ) → 1 ≤ c → c ≤ 16 → P (fill z c es)) → (us : List ℕ) → AllByRecursion (λ c. (1 ≤ c) × (c ≤ 16)) us → P (filled_by us es)
filled_by_keeps P es none some [] there = none
filled_by_keeps P es none some (c ∷ cs) there = some (blank_amount (weight_sum es c)) c there.0.0 there.0.1

pub complete_keeps : (P : List Entry → Type 0) (es : List Entry) → P es → ((z : ℤ) (c : ℕ) → 1 ≤ c → c ≤ 16 → P (fill z c es)) → P (complete es)
unfolding unbalanced_in
complete_keeps P es none some = filled_by_keeps P es none some (unbalanced_in es) (unbalanced_there (weight_sum es) 16)

pub complete_sum : (f : EntryKind → ℕ) → ((z : ℤ) (c a : ℕ) → f (Filled a z c) ≡ f (Unfilled a)) → (es : List Entry) → sum_of (λ e. f e.kind) (complete es) ≡ sum_of (λ e. f e.kind) es
complete_sum f same es = complete_keeps (λ xs. sum_of (λ e. f e.kind) xs ≡ sum_of (λ e. f e.kind) es) es refl (λ z c _ _. fill_sum z c f (same z c) es)

pub complete_lots_weight : (d : ℕ) (es : List Entry) → lots_weight_sum d (complete es) ≡ lots_weight_sum d es
complete_lots_weight d es = complete_keeps (λ xs. lots_weight_sum d xs ≡ lots_weight_sum d es) es refl (λ z c _ _. fill_sum_ints z c (lots_weight d) (λ a. refl) es)

pub complete_there : (es : List Entry) → AllByRecursion EntryThere es → AllByRecursion EntryThere (complete es)
complete_there es all =
    complete_keeps (λ xs. AllByRecursion EntryThere xs) es all
    (λ z c l h. fill_all z c KindThere (λ a there. record { a_low = there.a_low; a_high = there.a_high; c_low = l; c_high = h }) es all)

pub complete_all : (P : EntryKind → Type 0) → ((z : ℤ) (c a : ℕ) → P (Unfilled a) → P (Filled a z c)) → (es : List Entry) → AllByRecursion (λ e. P e.kind) es → AllByRecursion (λ e. P e.kind) (complete es)
complete_all P fills es all = complete_keeps (λ xs. AllByRecursion (λ e. P e.kind) xs) es all (λ z c _ _. fill_all z c P (fills z c) es all)
