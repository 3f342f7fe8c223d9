-- What digits of base ten say. Assumes nothing.
use Rattle.std.specs.Prelude.{ℕ, ◌+◌, ◌-◌, ◌*◌, cond, List, [], ◌∷◌, Some, None, Option}
use Rattle.std.specs.Char.{is_ascii_digit}

-- the number that the digits of a text write after those of n, if they are all digits
abbrev pub decimal_after : ℕ → List ℕ → Option ℕ
decimal_after n [] = Some n
decimal_after n (b ∷ bs) = cond (is_ascii_digit b) (decimal_after (n * 10 + (b - 48)) bs) None

abbrev pub decimal : List ℕ → Option ℕ
decimal bs = decimal_after 0 bs
