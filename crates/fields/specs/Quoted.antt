-- Reading a quoted text that opens the rest of a line. Assumes nothing.
use Rattle.std.specs.Prelude.{ℕ, ◌+◌, Bool, cond, ◌&&◌, ◌||◌, List, length, take, drop, Some, None, Option, Result, ◌==◌, nat_le, slice_index}
use Rattle.std.specs.Option.{option_map, ok_or}
use Rattle.byte_text.specs.Classes.{run_length}
use Rattle.byte_text.specs.declared.ByteClass.TheVariants.{QuotedText}
use Rattle.fields.specs.Spots.{Spot}
use Rattle.fields.specs.declared.fault.FieldFault.{FieldFault}
use Rattle.fields.specs.declared.fault.FieldFault.TheVariants as fault

-- a field ends here: with the line or a space
abbrev pub ends_field : List ℕ → Bool
ends_field rest = length rest == 0 || slice_index rest 0 == 32

-- how many bytes stand between the quotes that open a text, if they do
abbrev pub quoted_length : List ℕ → Option ℕ
quoted_length bs =
    let n = run_length QuotedText (drop 1 bs) in
    cond (slice_index bs 0 == 34 && (nat_le n 40 && (slice_index bs (n + 1) == 34 && ends_field (drop (n + 2) bs)))) (Some n) None

-- the text between the quotes, at the place of the first quote, or its fault
unfoldable pub quoted_at : Spot → Result Spot FieldFault
quoted_at s = ok_or (option_map (λ n. record { text = take n (drop 1 s.text); place = s.place }) (quoted_length s.text)) (fault.QuotedText s.place)
