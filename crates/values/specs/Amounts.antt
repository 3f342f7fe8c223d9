-- The range of an amount, in hundredths. Assumes nothing.
use Rattle.std.specs.Prelude.{ℕ, Bool, ℤ, pos, negsuc, ◌≤ℤ◌, nat_le, unsigned_abs}

abbrev pub largest_amount : ℕ
largest_amount = 99999999

abbrev pub InRange : ℤ → Type 0
InRange z = (negsuc 99999998 ≤ℤ z) × (z ≤ℤ pos largest_amount)

-- the same as a test
abbrev pub is_amount : ℤ → Bool
is_amount z = nat_le (unsigned_abs z) largest_amount
