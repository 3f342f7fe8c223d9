-- Reading a date: YYYY-MM-DD. Assumes nothing.
use Rattle.std.specs.Prelude.{ℕ, cond, ◌&&◌, List, length, take, drop, Some, None, Option, Result, ◌==◌, slice_index}
use Rattle.std.specs.Option.{ok_or}
use Rattle.values.specs.Calendar.{is_calendar_day, day_number}
use Rattle.fields.specs.Decimal.{decimal}
use Rattle.fields.specs.Results.{bind}
use Rattle.fields.specs.declared.fault.FieldFault.{FieldFault}
use Rattle.fields.specs.declared.fault.FieldFault.TheVariants.{Date}

-- the number of a day, if the calendar has it
abbrev pub day_of : ℕ → ℕ → ℕ → Option ℕ
day_of y m d = cond (is_calendar_day y m d) (Some (day_number y m d)) None

abbrev pub date : List ℕ → Option ℕ
date bs = cond (length bs == 10 && (slice_index bs 4 == 45 && slice_index bs 7 == 45)) (bind (decimal (take 4 bs)) (λ y. bind (decimal (take 2 (drop 5 bs))) (λ m. bind (decimal (take 2 (drop 8 bs))) (λ d. day_of y m d)))) None

-- the date of a field, or its fault
unfoldable pub date_at : List ℕ → ℕ → Result ℕ FieldFault
date_at bs place = ok_or (date bs) (Date place)
