-- How large a weight can be, whatever units and cost are: two numbers of 32 bits multiply to less than 2 ^ 64.
use Rattle.std.specs.Prelude.{ℕ}

abbrev pub largest_weight : ℕ
largest_weight = 18446744073709551616
