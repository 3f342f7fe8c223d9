-- The earliest matching lot, by its place in a list.
use Rattle.std.specs.Prelude.{◌≡◌, ℕ, ◌<◌, Bool, true, false, List, Some, None, Option, slice_index_or}
use Rattle.lots.specs.declared.rows.LotRow.{LotRow}
use Rattle.lots.specs.Rows.{no_lot}

-- none of the first n lots matches
abbrev pub NoneMatch : (LotRow → Bool) → List LotRow → ℕ → Type 0
NoneMatch M lots n = (k : ℕ) → k < n → M (slice_index_or lots k no_lot) ≡ false

-- of the first n lots the one at place i matches, and no matching one comes before it
pub record EarliestAt (M : LotRow → Bool) (lt : LotRow → LotRow → Bool) (lots : List LotRow) (n i : ℕ) : Type 0 where
  pub within : i < n
  pub fits : M (slice_index_or lots i no_lot) ≡ true
  pub least : (k : ℕ) → k < n → M (slice_index_or lots k no_lot) ≡ true → lt (slice_index_or lots k no_lot) (slice_index_or lots i no_lot) ≡ false

-- the place of the earliest of the first n lots, if one matches
abbrev pub Found : (LotRow → Bool) → (LotRow → LotRow → Bool) → List LotRow → ℕ → Option ℕ → Type 0
Found M lt lots n None = NoneMatch M lots n
Found M lt lots n (Some i) = EarliestAt M lt lots n i
