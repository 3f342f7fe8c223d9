-- How far balances can have moved after so many entries of a draft.
use Rattle.std.specs.Prelude.{ℕ, ◌+◌, ◌*◌, List, ℤ}
use Rattle.booking.specs.Limits.{balance_count}
use Rattle.booking.specs.Balances.{largest_balance}
use Rattle.balancing.specs.Bounds.{AllWithin}

-- an amount has 32 bits
abbrev pub Near : List ℤ → ℕ → Type 0
Near bs n = AllWithin balance_count (largest_balance + 2147483648 * n) bs
