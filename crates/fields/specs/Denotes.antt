-- What the texts of fields mean: which text denotes which amount, writes which date, quotes which text. Assumes nothing.
use Rattle.std.specs.Prelude.{◌≡◌, ℕ, ◌+◌, ◌-◌, ◌*◌, ◌^◌, ◌≤◌, Bool, true, false, cond, List, [], ◌∷◌, ◌++◌, length, ℤ, pos, neg_ℤ, fold, ◌≢◌}
use Rattle.std.specs.List.{AllByRecursion}
use Rattle.values.specs.Calendar.{CalendarDay, day_number}
use Rattle.values.specs.Spelling.{Digit}

-- the number that digits write in base ten
abbrev pub value : List ℕ → ℕ
value ds = fold (λ n b. n * 10 + (b - 48)) 0 ds

-- a numeral: its sign, its digits before the point and those behind it
pub record Numeral : Type 0 where
  pub minus : Bool
  pub whole : List ℕ
  pub decimals : List ℕ

-- 1 to 6 digits before the point, at most 2 behind it
pub record Valid (m : Numeral) : Type 0 where
  pub whole_digits : AllByRecursion Digit m.whole
  pub whole_some : 1 ≤ length m.whole
  pub whole_few : length m.whole ≤ 6
  pub decimal_digits : AllByRecursion Digit m.decimals
  pub decimals_few : length m.decimals ≤ 2

abbrev pub sign : Bool → List ℕ
sign true = 45 ∷ []
sign false = []

-- the point stands only before digits
abbrev pub point : List ℕ → List ℕ
point [] = []
point (d ∷ ds) = 46 ∷ d ∷ ds

abbrev pub spelling : Numeral → List ℕ
spelling m = sign m.minus ++ (m.whole ++ point m.decimals)

-- its hundredths, without the sign
abbrev pub size : Numeral → ℕ
size m = value m.whole * 100 + value m.decimals * 10 ^ (2 - length m.decimals)

abbrev pub amount : Numeral → ℤ
amount m = cond m.minus (neg_ℤ (pos (size m))) (pos (size m))

-- the text denotes the amount v, in hundredths
abbrev pub Denotes : List ℕ → ℤ → Type 0
Denotes t v = (m : Numeral) × Valid m × (t ≡ spelling m) × (v ≡ amount m)

-- four digits of a year, two of a month and two of a day, with hyphens between
pub record DateText (t : List ℕ) : Type 0 where
  pub year : List ℕ
  pub month : List ℕ
  pub day : List ℕ
  pub digits : AllByRecursion Digit year × AllByRecursion Digit month × AllByRecursion Digit day
  pub lengths : (length year ≡ 4) × (length month ≡ 2) × (length day ≡ 2)
  pub spelled : t ≡ year ++ 45 ∷ (month ++ 45 ∷ day)

-- the text writes the date of the number n
abbrev pub WritesDate : List ℕ → ℕ → Type 0
WritesDate t n = (w : DateText t) × CalendarDay (value w.year) (value w.month) (value w.day) × (n ≡ day_number (value w.year) (value w.month) (value w.day))

-- a quoted text may be followed by a space or by nothing
abbrev pub FieldEnds : List ℕ → Type 0
FieldEnds [] = Unit {0}
FieldEnds (b ∷ bs) = b ≡ 32

-- the text starts with the content between quotes, and more follows
pub record Quotes (t content more : List ℕ) : Type 0 where
  pub spelled : t ≡ 34 ∷ (content ++ 34 ∷ more)
  pub plain : AllByRecursion (λ b. (b ≢ 34) × (b ≢ 92)) content
  pub short : length content ≤ 40
  pub ends : FieldEnds more
