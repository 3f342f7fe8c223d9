-- Reading a number: an optional minus, 1 to 6 digits, and possibly a point with 1 or 2 digits. In hundredths. Assumes nothing.
use Rattle.std.specs.Prelude.{ℕ, ◌+◌, ◌*◌, Bool, cond, ◌&&◌, List, length, take, drop, ℤ, pos, neg_ℤ, Some, None, Option, Result, ◌==◌, nat_le, slice_index}
use Rattle.std.specs.Option.{option_map, ok_or}
use Rattle.byte_text.specs.Classes.{before}
use Rattle.fields.specs.Decimal.{decimal}
use Rattle.fields.specs.Results.{bind}
use Rattle.fields.specs.declared.fault.FieldFault.{FieldFault}
use Rattle.fields.specs.declared.fault.FieldFault.TheVariants.{Number}

-- 1 to 6 digits
abbrev pub whole : List ℕ → Option ℕ
whole bs = cond (nat_le 1 (length bs) && nat_le (length bs) 6) (decimal bs) None

-- what stands from the point on, in hundredths: nothing, or the point and 1 or 2 digits
abbrev pub fraction : List ℕ → Option ℕ
fraction bs = cond (length bs == 0) (Some 0) (cond (length bs == 2) (option_map (λ n. n * 10) (decimal (drop 1 bs))) (cond (length bs == 3) (decimal (drop 1 bs)) None))

abbrev pub unsigned : List ℕ → Option ℕ
unsigned bs = bind (whole (take (before 46 bs) bs)) (λ n. option_map (λ f. n * 100 + f) (fraction (drop (before 46 bs) bs)))

abbrev pub has_minus : List ℕ → Bool
has_minus bs = slice_index bs 0 == 45

abbrev pub number : List ℕ → Option ℤ
number bs = cond (has_minus bs) (option_map (λ n. neg_ℤ (pos n)) (unsigned (drop 1 bs))) (option_map pos (unsigned bs))

-- the number of a field, or its fault
unfoldable pub number_at : List ℕ → ℕ → Result ℤ FieldFault
number_at bs place = ok_or (number bs) (Number place)
