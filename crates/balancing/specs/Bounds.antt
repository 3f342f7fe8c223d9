-- How large sums of weights can be.
use Rattle.std.specs.Prelude.{ℕ, ◌+◌, ◌*◌, ◌<◌, ◌≤◌, List, ℤ, pos, slice_index_or, unsigned_abs}
use Rattle.booking.specs.Limits.{most_commodities}
use Rattle.weights.specs.Sizes.{largest_weight}

-- none of the first `count` numbers is larger in size
abbrev pub AllWithin : ℕ → ℕ → List ℤ → Type 0
AllWithin count size zs = (k : ℕ) → k < count → unsigned_abs (slice_index_or zs k (pos 0)) ≤ size

-- the sums of n weights in all commodities, and in the number 0, which none has
abbrev pub Near : List ℤ → ℕ → Type 0
Near zs n = AllWithin (most_commodities + 1) (largest_weight * n) zs
