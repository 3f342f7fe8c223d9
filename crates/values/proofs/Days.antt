-- A day's number and its parts.
use Rattle.std.proofs.lemmas.Bool.Decides.{nat_tests}
use Rattle.std.proofs.Common.{◌≡◌, ℕ, ◌/◌, ◌%◌, ◌<◌, ◌≤◌, Decides, ap, ◌∙◌, arith}
use Rattle.values.specs.Calendar.{month_length, is_calendar_day, is_day, CalendarDay, day_number, DayNumber}

day_of : (y m d : ℕ) → m < 100 → d < 100 → day_number y m d % 100 ≡ d
day_of y m d p q = omega arith

pub day_parts : (y m d : ℕ) → m < 100 → d < 100 → is_day (day_number y m d) ≡ is_calendar_day y m d
day_parts y m d p q = grind (arith, nat_tests)

pub calendar_decides : (y m d : ℕ) → Decides (is_calendar_day y m d) (CalendarDay y m d)
calendar_decides y m d = grind (arith, nat_tests)

number_parts : (n : ℕ) → n ≡ day_number (n / 10000) (n / 100 % 100) (n % 100)
number_parts n = omega arith

month_length_few : (y m : ℕ) → month_length y m ≤ 31
month_length_few y m = grind arith

pub day_decides : (n : ℕ) → Decides (is_day n) (DayNumber n)
day_decides n = (
  λ e. (n / 10000, n / 100 % 100, n % 100, (calendar_decides _ _ _).0 e, number_parts n),
  λ d.
      let c = d.3 in
      let few = month_length_few d.0 d.1 in
      ap is_day d.4
      ∙ day_parts d.0 d.1 d.2 (omega (arith, c.to_december)) (omega (arith, c.to_last))
      ∙ (calendar_decides d.0 d.1 d.2).1 c,
)
