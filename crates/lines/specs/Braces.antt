-- A posting's braces: their shape, and what stands in them. Assumes nothing.
use Rattle.std.specs.Prelude.{ℕ, ◌+◌, Bool, cond, ◌&&◌, List, [], ◌∷◌, length, take, drop, Some, None, Ok, Err, Option, Result, ◌==◌, nat_le, nat_lt, slice_index}
use Rattle.std.specs.Option.{option_map}
use Rattle.byte_text.specs.Classes.{run_length, all_in, before}
use Rattle.byte_text.specs.declared.ByteClass.TheVariants.{Space, Except}
use Rattle.fields.specs.Dates.{date_at}
use Rattle.fields.specs.Numbers.{number_at, has_minus}
use Rattle.fields.specs.Results.{bind, and_then}
use Rattle.fields.specs.Spots.{Spot, commodity_at}
use Rattle.lines.specs.Cuts.{missing}
use Rattle.lines.specs.Said.{CostSaid, BracesSaid, empty, cost, date, cost_and_date}
use Rattle.lines.specs.declared.fault.LineFault.{LineFault}
use Rattle.lines.specs.declared.fault.LineFault.TheVariants as fault

-- a comma stands at an index, and a space behind it
abbrev pub separates : List ℕ → ℕ → Bool
separates bs i = slice_index bs i == 44 && slice_index bs (i + 1) == 32

-- how many bytes stand before the first comma with a space behind it, all of them if there is none
abbrev pub before_separator : List ℕ → ℕ
before_separator [] = 0
before_separator (b ∷ bs) = cond (b == 44 && slice_index bs 0 == 32) 0 (1 + before_separator bs)

-- a word: some bytes, none a space
abbrev pub is_word : List ℕ → Bool
is_word bs = nat_le 1 (length bs) && all_in (Except 32) bs

-- the two words of a cost, with one or more spaces between and none before or after
pub record Words : Type 0 where
  pub number : Spot
  pub commodity : Spot

abbrev pub gap_end : List ℕ → ℕ
gap_end bs = before 32 bs + run_length Space (drop (before 32 bs) bs)

unfoldable pub two_words : Spot → Option Words
two_words s =
    cond (nat_le 1 (before 32 s.text) && is_word (drop (gap_end s.text) s.text))
    (Some (record { number = record { text = take (before 32 s.text) s.text; place = s.place }; commodity = record { text = drop (gap_end s.text) s.text; place = s.place + gap_end s.text } }))
    None

-- what the shape of the braces says: which parts they have
pub data Shape : Type 0 where
  no_part : Shape
  cost_part : Words → Shape
  date_part : Spot → Shape
  both_parts : Words → Spot → Shape

abbrev pub word_at : Spot → Option Spot
word_at s = cond (is_word s.text) (Some s) None

-- what stands behind the first n bytes
abbrev pub part_after : ℕ → Spot → Spot
part_after n s = record { text = drop n s.text; place = s.place + n }

abbrev pub part_before : ℕ → Spot → Spot
part_before n s = record { text = take n s.text; place = s.place }

-- the parts before and behind the first comma with a space behind it, if there is one
abbrev pub parts_cut : Spot → Option (Spot × Spot)
parts_cut s =
    cond (nat_lt (before_separator s.text) (length s.text))
    (Some (part_before (before_separator s.text) s, part_after (before_separator s.text + 2) s))
    None

-- a cost, and behind the comma and the space a date
unfoldable pub two_parts : Spot × Spot → Option Shape
two_parts parts = bind (two_words parts.0) (λ w. option_map (λ d. both_parts w d) (word_at parts.1))

-- a part with a space in it is a cost, any other a date
unfoldable pub one_part : Spot → Option Shape
one_part s = cond (is_word s.text) (Some (date_part s)) (option_map cost_part (two_words s))

abbrev pub shape_by : Spot → Option (Spot × Spot) → Option Shape
shape_by s None = one_part s
shape_by s (Some parts) = two_parts parts

unfoldable pub shape : Spot → Option Shape
shape s = cond (missing s) (Some no_part) (shape_by s (parts_cut s))

-- a cost has no minus; its number is read first
unfoldable pub cost_in : ℕ → Words → Result CostSaid LineFault
cost_in brace w =
    and_then fault.Field (number_at w.number.text w.number.place) (λ v.
    cond (has_minus w.number.text) (Err (fault.Braces brace))
    (and_then fault.Field (commodity_at w.commodity) (λ c. Ok (record { number = w.number; hundredths = v; commodity = c }))))

unfoldable pub date_in : Spot → Result ℕ LineFault
date_in s = and_then fault.Field (date_at s.text s.place) (λ d. Ok d)

-- what parts in braces at the place `brace` say
abbrev pub shaped : ℕ → Shape → Result BracesSaid LineFault
shaped brace no_part = Ok empty
shaped brace (cost_part w) = and_then (λ f. f) (cost_in brace w) (λ c. Ok (cost c))
shaped brace (date_part s) = and_then (λ f. f) (date_in s) (λ d. Ok (date d))
shaped brace (both_parts w s) = and_then (λ f. f) (cost_in brace w) (λ c. and_then (λ f. f) (date_in s) (λ d. Ok (cost_and_date c d)))

abbrev pub inside_by : ℕ → Option Shape → Result BracesSaid LineFault
inside_by brace None = Err (fault.Braces brace)
inside_by brace (Some sh) = shaped brace sh

-- the text between braces: its shape comes first, then its fields from left to right
unfoldable pub inside : ℕ → Spot → Result BracesSaid LineFault
inside brace s = inside_by brace (shape s)
