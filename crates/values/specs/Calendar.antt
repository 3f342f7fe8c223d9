-- The Gregorian calendar of the years 1970 to 2199. Assumes nothing.
use Rattle.std.specs.Prelude.{◌≡◌, ℕ, ◌+◌, ◌*◌, ◌/◌, ◌%◌, ◌≤◌, Bool, cond, not, ◌&&◌, ◌||◌, ◌==◌, nat_le}

abbrev pub leap : ℕ → Bool
leap y = y % 4 == 0 && (not (y % 100 == 0) || y % 400 == 0)

-- April, June, September and November have 30 days, February 28 or 29, the others 31
abbrev pub month_length : ℕ → ℕ → ℕ
month_length y m = cond (m == 2) (cond (leap y) 29 28) (cond (m == 4 || (m == 6 || (m == 9 || m == 11))) 30 31)

-- year, month and day are a day of the calendar
abbrev pub is_calendar_day : ℕ → ℕ → ℕ → Bool
is_calendar_day y m d = (nat_le 1970 y && nat_le y 2199) && ((nat_le 1 m && nat_le m 12) && (nat_le 1 d && nat_le d (month_length y m)))

-- the number is that of a day
abbrev pub is_day : ℕ → Bool
is_day n = is_calendar_day (n / 10000) (n / 100 % 100) (n % 100)

-- the same as a relation: a day of the calendar
pub record CalendarDay (y m d : ℕ) : Type 0 where
  pub from_1970 : 1970 ≤ y
  pub to_2199 : y ≤ 2199
  pub from_january : 1 ≤ m
  pub to_december : m ≤ 12
  pub from_first : 1 ≤ d
  pub to_last : d ≤ month_length y m

-- the number of a day: year * 10,000 + month * 100 + day
abbrev pub day_number : ℕ → ℕ → ℕ → ℕ
day_number y m d = y * 10000 + m * 100 + d

-- the number is that of some day of the calendar
abbrev pub DayNumber : ℕ → Type 0
DayNumber n = (y : ℕ) × (m : ℕ) × (d : ℕ) × CalendarDay y m d × (n ≡ day_number y m d)
