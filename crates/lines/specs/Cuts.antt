-- Fields of a line, which spaces part. Assumes nothing.
use Rattle.std.specs.Prelude.{ℕ, ◌+◌, Bool, List, length, take, drop, ◌==◌}
use Rattle.byte_text.specs.Classes.{run_length, before}
use Rattle.byte_text.specs.declared.ByteClass.TheVariants.{Space}
use Rattle.fields.specs.Spots.{Spot}

-- the index at which the first field at or after `from` starts, the line's length if there is none
unfoldable pub field_start : List ℕ → ℕ → ℕ
field_start line from = from + run_length Space (drop from line)

-- and at which it ends
unfoldable pub field_end : List ℕ → ℕ → ℕ
field_end line from = field_start line from + before 32 (drop (field_start line from) line)

-- the line from that field on
abbrev pub rest_at : List ℕ → ℕ → Spot
rest_at line from = record { text = drop (field_start line from) line; place = field_start line from + 1 }

unfoldable pub field_text : List ℕ → ℕ → List ℕ
field_text line from = take (before 32 (drop (field_start line from) line)) (drop (field_start line from) line)

-- the field itself: empty, and one past the end, if there is none
abbrev pub field_at : List ℕ → ℕ → Spot
field_at line from = record { text = field_text line from; place = field_start line from + 1 }

abbrev pub missing : Spot → Bool
missing s = length s.text == 0
