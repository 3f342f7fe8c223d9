-- A text cut at a byte: its first part, and the parts after it.
use Rattle.std.proofs.Common.{◌≡◌, ℕ, ◌+◌, ◌<◌, ◌≤◌, Bool, true, false, ◌&&◌, eqb, leb, List, [], ◌∷◌, length, take, drop, sym, refl, ap, ◌∙◌, ⊎_elim, add-one, one-add, arith}
use Rattle.std.proofs.lemmas.List.{take_all}
use Rattle.std.proofs.lemmas.List.Sums.{prefix_len-le-length}
use Rattle.std.proofs.lemmas.Bool.{cases_Bool, cases_lt, and_left, and_right, lt-leb, le-leb}
use Rattle.byte_text.specs.Classes.{before}
use Rattle.values.specs.Names.{split_at, is_root, all_parts, root_and_parts, is_account_name}

pub split_last : (c : ℕ) (xs : List ℕ) → before c xs ≡ length xs → split_at c xs ≡ xs ∷ []
split_last c [] h = refl
split_last c (b ∷ bs) h =
    ⊎_elim
    (λ (e : eqb b c ≡ true). let z = simp e at h in absurd (omega arith))
    (λ (e : eqb b c ≡ false). let z = simp (e, one-add) at h in simp (e, split_last c bs (omega arith)))
    (cases_Bool (eqb b c))

pub split_more : (c : ℕ) (xs : List ℕ) → before c xs < length xs → split_at c xs ≡ take (before c xs) xs ∷ split_at c (drop (before c xs + 1) xs)
split_more c [] h = absurd (omega arith)
split_more c (b ∷ bs) h =
    ⊎_elim
    (λ (e : eqb b c ≡ true). simp e)
    (λ (e : eqb b c ≡ false). let z = simp (e, one-add) at h in simp (e, one-add, add-one, split_more c bs (omega arith)))
    (cases_Bool (eqb b c))

-- the first part, and what the cut gives after it
pub split_first : (c : ℕ) (xs : List ℕ) → (ps : List (List ℕ)) × (split_at c xs ≡ take (before c xs) xs ∷ ps)
split_first c xs =
    ⊎_elim
    (λ (h : before c xs < length xs). (split_at c (drop (before c xs + 1) xs), split_more c xs h))
    (λ (h : length xs ≤ before c xs).
    let e : before c xs ≡ length xs = omega (arith, before_within c xs) in
    ([], split_last c xs e ∙ ap (λ (p : List ℕ). p ∷ []) (sym (take_all _ _ h))))
    (cases_lt (before c xs) (length xs))
  where
    before_within : (c : ℕ) (xs : List ℕ) → before c xs ≤ length xs
    before_within c xs = prefix_len-le-length _ xs

-- an account's name, by its first part and what stands after the colon
one_part : (xs : List ℕ) → before 58 xs ≡ length xs → root_and_parts (split_at 58 xs) ≡ false
one_part xs e = rw (split_last 58 xs e) (and_right _ _ refl)

split_some : (c : ℕ) (xs : List ℕ) → leb 1 (length (split_at c xs)) ≡ true
split_some c xs = let s = split_first c xs in le-leb 1 _ (omega (arith, ap length s.1))

more_parts : (xs : List ℕ) → before 58 xs < length xs → root_and_parts (split_at 58 xs) ≡ (is_root (take (before 58 xs) xs) && all_parts 5 (split_at 58 (drop (before 58 xs + 1) xs)))
more_parts xs h =
    rw (split_more 58 xs h)
    (ap (λ (t : Bool). is_root (take (before 58 xs) xs) && (t && all_parts 5 (split_at 58 (drop (before 58 xs + 1) xs)))) (split_some 58 (drop (before 58 xs + 1) xs)))

pub account_long : (xs : List ℕ) → 48 < length xs → is_account_name xs ≡ false
unfolding is_account_name
account_long xs h = and_left _ _ (lt-leb (length xs) 48 h)

pub account_alone : (xs : List ℕ) → before 58 xs ≡ length xs → is_account_name xs ≡ false
unfolding is_account_name
account_alone xs e = and_right _ _ (one_part xs e)

pub account_rootless : (xs : List ℕ) → before 58 xs < length xs → is_root (take (before 58 xs) xs) ≡ false → is_account_name xs ≡ false
unfolding is_account_name
account_rootless xs h e = and_right _ _ (more_parts xs h ∙ and_left _ _ e)

pub account_by : (xs : List ℕ) → length xs ≤ 48 → before 58 xs < length xs → is_root (take (before 58 xs) xs) ≡ true → is_account_name xs ≡ all_parts 5 (split_at 58 (drop (before 58 xs + 1) xs))
unfolding is_account_name
account_by xs l h e = let t = le-leb (length xs) 48 l in rw (t, more_parts xs h, e)
