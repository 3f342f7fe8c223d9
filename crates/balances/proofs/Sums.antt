-- A balance after entries is what it was and what they add; so all stay within their bound if those do that are added to.
use Rattle.std.proofs.Common.{◌≡◌, ℕ, zero, suc, ◌<◌, Bool, true, false, cond, ◌⊎◌, inl, inr, List, [], ◌∷◌, length, ℤ, pos, ◌+ℤ◌, nat_eq, nat_le, slice_index_or, slice_set, unsigned_abs, refl, sym, ◌∙◌, arith}
use Rattle.std.specs.List.{list_all}
use Rattle.std.proofs.lemmas.Bool.Decides.{nat_tests}
use Rattle.std.proofs.lemmas.Int.{ints}
use Rattle.std.proofs.lemmas.List.{get_or-set_same, get_or-set_other, length-set}
use Rattle.booking.specs.declared.entry.Entry.{Entry}
use Rattle.booking.specs.declared.entry.EntryKind.{EntryKind}
use Rattle.booking.specs.declared.entry.EntryKind.TheVariants.{PlainAmount, Unfilled, Filled, Bought, Drew}
use Rattle.booking.specs.Balances.{balance_place, add_kind, balances_after, largest_balance, all_within}
use Rattle.balances.specs.Sums.{amount_at, sum_at, place_stays, kind_stays}

abbrev at : List ℤ → ℕ → ℤ
at bs p = slice_index_or bs p (pos 0)

abbrev within : ℤ → Bool
within z = nat_le (unsigned_abs z) largest_balance

amount_more : (bs : List ℤ) (q p : ℕ) (z : ℤ) → p < length bs → at (slice_set bs q (at bs q +ℤ z)) p ≡ at bs p +ℤ cond (nat_eq q p) z (pos 0)
amount_more bs q p z h = by (nat_eq q p) refl
  where
    by : (b : Bool) → nat_eq q p ≡ b → at (slice_set bs q (at bs q +ℤ z)) p ≡ at bs p +ℤ cond b z (pos 0)
    by true e =
        let same : q ≡ p = grind (arith, nat_tests) in
        rw same (get_or-set_same bs p (at bs p +ℤ z) (pos 0) h)
    by false e =
        let other : at (slice_set bs q (at bs q +ℤ z)) p ≡ at bs p = get_or-set_other bs q p (at bs q +ℤ z) (pos 0) (grind (arith, nat_tests)) in
        omega (arith, ints, other)

kind_more : (bs : List ℤ) (k : EntryKind) (p : ℕ) → p < length bs → at (add_kind bs k) p ≡ at bs p +ℤ amount_at p k
kind_more bs (PlainAmount account amount commodity) p h = amount_more bs (balance_place account commodity) p amount h
kind_more bs (Unfilled account) p h = omega (arith, ints)
kind_more bs (Filled account amount commodity) p h = amount_more bs (balance_place account commodity) p amount h
kind_more bs (Bought key units serial) p h = omega (arith, ints)
kind_more bs (Drew draw) p h = omega (arith, ints)

kind_length : (bs : List ℤ) (k : EntryKind) → length (add_kind bs k) ≡ length bs
kind_length bs (PlainAmount account amount commodity) = length-set bs (balance_place account commodity) (at bs (balance_place account commodity) +ℤ amount)
kind_length bs (Unfilled account) = refl
kind_length bs (Filled account amount commodity) = length-set bs (balance_place account commodity) (at bs (balance_place account commodity) +ℤ amount)
kind_length bs (Bought key units serial) = refl
kind_length bs (Drew draw) = refl

after_length : (es : List Entry) (bs : List ℤ) → length (balances_after bs es) ≡ length bs
after_length [] bs = refl
after_length (e ∷ es) bs = after_length es (add_kind bs e.kind) ∙ kind_length bs e.kind

after_more : (es : List Entry) (bs : List ℤ) (p : ℕ) → p < length bs → at (balances_after bs es) p ≡ at bs p +ℤ sum_at p es
after_more [] bs p h = omega (arith, ints)
after_more (e ∷ es) bs p h =
    let rest = after_more es (add_kind bs e.kind) p (rw (kind_length bs e.kind) h) in
    let one = kind_more bs e.kind p h in
    omega (arith, ints, rest, one)

all_at : (bs : List ℤ) → all_within bs ≡ true → (p : ℕ) → p < length bs → within (at bs p) ≡ true
all_at [] all p h = refl
all_at (b ∷ bs) all zero h = grind (arith, nat_tests)
all_at (b ∷ bs) all (suc p) h = all_at bs (grind (arith, nat_tests)) p (omega (arith, h))

all_of_each : (bs : List ℤ) → ((p : ℕ) → p < length bs → within (at bs p) ≡ true) → all_within bs ≡ true
all_of_each [] each = refl
all_of_each (b ∷ bs) each = rw (each 0 (omega arith)) (all_of_each bs (λ p h. each (suc p) (omega (arith, h))))

-- all balances stay if, and only if, those stay that an entry adds to
module _ (bs : List ℤ) (es : List Entry) (small : all_within bs ≡ true) (many : length bs ≡ 1024) where
  -- what the balance at a place comes to
  abbrev to : ℕ → ℤ
  to p = at bs p +ℤ sum_at p es

  place_stays_there : all_within (balances_after bs es) ≡ true → (p : ℕ) → place_stays bs es p ≡ true
  place_stays_there all p = by (nat_le 1024 p) refl
    where
      by : (b : Bool) → nat_le 1024 p ≡ b → place_stays bs es p ≡ true
      by true e = rw e refl
      by false e =
          let h : p < length bs = grind (arith, nat_tests) in
          let there : within (at (balances_after bs es) p) ≡ true = all_at (balances_after bs es) all p (rw (after_length es bs) h) in
          let stays : within (to p) ≡ true = rw (← after_more es bs p h) there in
          rw (e, stays) refl

  kind_stays_there : all_within (balances_after bs es) ≡ true → (k : EntryKind) → kind_stays bs es k ≡ true
  kind_stays_there all (PlainAmount account amount commodity) = place_stays_there all (balance_place account commodity)
  kind_stays_there all (Unfilled account) = refl
  kind_stays_there all (Filled account amount commodity) = place_stays_there all (balance_place account commodity)
  kind_stays_there all (Bought key units serial) = refl
  kind_stays_there all (Drew draw) = refl

  each_stays : all_within (balances_after bs es) ≡ true → (fs : List Entry) → list_all (λ e. kind_stays bs es e.kind) fs ≡ true
  each_stays all [] = refl
  each_stays all (e ∷ fs) = rw (kind_stays_there all e.kind) (each_stays all fs)

  module _ (p : ℕ) (h : p < 1024) where
    amount_touches : (q : ℕ) (z : ℤ) → place_stays bs es q ≡ true → (within (to p) ≡ true) ⊎ (cond (nat_eq q p) z (pos 0) ≡ pos 0)
    amount_touches q z stays = by (nat_eq q p) refl (nat_le 1024 q) refl
      where
        by : (b : Bool) → nat_eq q p ≡ b → (past : Bool) → nat_le 1024 q ≡ past → (within (to p) ≡ true) ⊎ (cond b z (pos 0) ≡ pos 0)
        by false e past past_is = inr refl
        by true e past past_is = inl (grind (arith, nat_tests))

    kind_touches : (k : EntryKind) → kind_stays bs es k ≡ true → (within (to p) ≡ true) ⊎ (amount_at p k ≡ pos 0)
    kind_touches (PlainAmount account amount commodity) stays = amount_touches (balance_place account commodity) amount stays
    kind_touches (Unfilled account) stays = inr refl
    kind_touches (Filled account amount commodity) stays = amount_touches (balance_place account commodity) amount stays
    kind_touches (Bought key units serial) stays = inr refl
    kind_touches (Drew draw) stays = inr refl

    touched : (fs : List Entry) → list_all (λ e. kind_stays bs es e.kind) fs ≡ true → (within (to p) ≡ true) ⊎ (sum_at p fs ≡ pos 0)
    touched [] stay = inr refl
    touched (e ∷ fs) stay = by (kind_touches e.kind (grind (arith, nat_tests))) (touched fs (grind (arith, nat_tests)))
      where
        by : (within (to p) ≡ true) ⊎ (amount_at p e.kind ≡ pos 0) → (within (to p) ≡ true) ⊎ (sum_at p fs ≡ pos 0) → (within (to p) ≡ true) ⊎ (sum_at p (e ∷ fs) ≡ pos 0)
        by (inl w) rest = inl w
        by (inr none_here) (inl w) = inl w
        by (inr none_here) (inr none) = inr (omega (arith, ints, none_here, none))

    place_within : list_all (λ e. kind_stays bs es e.kind) es ≡ true → within (at (balances_after bs es) p) ≡ true
    place_within stay = rw (after_more es bs p (rw many h)) (by (touched es stay))
      where
        by : (within (to p) ≡ true) ⊎ (sum_at p es ≡ pos 0) → within (to p) ≡ true
        by (inl w) = w
        by (inr none) =
            let same : to p ≡ at bs p = omega (arith, ints, none) in
            rw same (all_at bs small p (rw many h))

  pub stay_within : list_all (λ e. kind_stays bs es e.kind) es ≡ all_within (balances_after bs es)
  stay_within = by (list_all (λ e. kind_stays bs es e.kind) es) refl (all_within (balances_after bs es)) refl
    where
      by : (x : Bool) → list_all (λ e. kind_stays bs es e.kind) es ≡ x → (y : Bool) → all_within (balances_after bs es) ≡ y → x ≡ y
      by true is true is' = refl
      by false is false is' = refl
      by true is false is' = sym (sym is' ∙ all_of_each (balances_after bs es) (λ p h. place_within p (grind (arith, after_length es bs, many)) is))
      by false is true is' = sym is ∙ each_stays is' es
