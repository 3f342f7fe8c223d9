-- How figures are written.
use Rattle.std.specs.Prelude.{ℕ, ◌+◌, ◌/◌, ◌%◌, if◌then◌else◌, List, [], ◌∷◌, ◌++◌, ℤ, unsigned_abs}
use Rattle.std.specs.Fmt.{decimal}
use Rattle.std.specs.Int.{is_negative}

-- the digit that counts a unit of 1, 10, 100 and so on; 48 is the digit 0
abbrev pub digit : ℕ → ℕ → ℕ
digit unit n = 48 + n / unit % 10

-- with two decimals: 45 is the minus sign, 46 the point
abbrev pub hundredths_text : ℤ → List ℕ
hundredths_text z =
    let size = unsigned_abs z in
    (if is_negative z then 45 ∷ [] else []) ++ decimal (size / 100) ++ 46 ∷ digit 10 size ∷ digit 1 size ∷ []

-- the last eight digits, as YYYY-MM-DD
abbrev pub day_text : ℕ → List ℕ
day_text n =
    digit 10000000 n ∷ digit 1000000 n ∷ digit 100000 n ∷ digit 10000 n ∷ 45 ∷ digit 1000 n ∷ digit 100 n ∷ 45 ∷ digit 10 n ∷ digit 1 n ∷ []
