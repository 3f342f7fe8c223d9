-- Larger bounds.
use Rattle.std.proofs.Common.{ℕ, ◌≤◌, List, ℤ, arith}
use Rattle.balancing.specs.Bounds.{AllWithin}

pub all_within_more : (count m n : ℕ) (zs : List ℤ) → m ≤ n → AllWithin count m zs → AllWithin count n zs
all_within_more count m n zs le within k h = omega (arith, within k h)
