-- A journal's lines, the kind of each, and what each says. Assumes nothing.
use Rattle.std.specs.Prelude.{ℕ, ◌+◌, min, cond, ◌&&◌, List, [], ◌∷◌, length, Some, None, Ok, Err, Option, Result, ◌==◌, nat_le, slice_index}
use Rattle.byte_text.specs.Classes.{run_length, all_in}
use Rattle.byte_text.specs.declared.ByteClass.TheVariants.{Printable, Space}
use Rattle.values.specs.Names.{split_at}
use Rattle.fields.specs.Results.{and_then}
use Rattle.refusal.specs.declared.Fault.{Fault}
use Rattle.refusal.specs.declared.Refusal.TheVariants.{WrongByte}
use Rattle.lines.specs.Cuts.{rest_at}
use Rattle.lines.specs.Directives.{directive_line}
use Rattle.lines.specs.Faults.{fault_on}
use Rattle.lines.specs.Postings.{posting_of}
use Rattle.lines.specs.Said.{Said, posting}
use Rattle.lines.specs.declared.fault.LineFault.{LineFault}
use Rattle.lines.specs.declared.fault.LineFault.TheVariants as fault
use Rattle.lines.specs.declared.line.LineKind.{LineKind}
use Rattle.lines.specs.declared.line.LineKind.TheVariants as kind

-- lines end with byte 10 or with the journal, so nothing stands behind a last byte 10
abbrev pub without_last_empty : List (List ℕ) → List (List ℕ)
without_last_empty [] = []
without_last_empty (p ∷ []) = cond (length p == 0) [] (p ∷ [])
without_last_empty (p ∷ q ∷ ps) = p ∷ without_last_empty (q ∷ ps)

abbrev pub lines_of : List ℕ → List (List ℕ)
lines_of journal = without_last_empty (split_at 10 journal)

-- a journal has at most 60,000 bytes
abbrev pub journal_fault : List ℕ → Result (Unit {0}) Fault
journal_fault journal = cond (nat_le (length journal) 60000) (Ok tt) (Err (record { refusal = WrongByte; line = 0; place = 0 }))

-- the place of the first byte outside 32 to 126, or 121 where the line is longer than 120: the smaller
unfoldable pub wrong_byte : List ℕ → Option ℕ
wrong_byte line =
    cond (run_length Printable line == length line && nat_le (length line) 120) None (Some (min (run_length Printable line) 120 + 1))

-- the kind is decided before any byte is judged
unfoldable pub line_kind : List ℕ → LineKind
line_kind line = cond (nat_le (length line) 120 && all_in Space line) kind.Blank (cond (slice_index line 0 == 32) kind.Posting kind.Other)

abbrev pub unless_wrong : {A : Type 0} → Option ℕ → Result A LineFault → Result A LineFault
unless_wrong (Some place) r = Err (fault.WrongByte place)
unless_wrong None r = r

-- a wrong byte comes before any other fault of its line
unfoldable pub posting_line : List ℕ → Result Said LineFault
posting_line line = unless_wrong (wrong_byte line) (and_then (λ f. f) (posting_of line) (λ p. Ok (posting p)))

unfoldable pub other_line : ℕ → List ℕ → Result Said LineFault
other_line number line = unless_wrong (wrong_byte line) (directive_line number line)

-- what a line of some kind says: nothing if it is blank
abbrev pub by_kind : ℕ → List ℕ → LineKind → Result (Option Said) LineFault
by_kind number line kind.Blank = Ok None
by_kind number line kind.Posting = and_then (λ f. f) (posting_line line) (λ s. Ok (Some s))
by_kind number line kind.Other = and_then (λ f. f) (other_line number line) (λ s. Ok (Some s))

-- what the line of a number says, or its fault
unfoldable pub line_says : ℕ → List ℕ → Result (Option Said) Fault
line_says number line = and_then (fault_on number) (by_kind number line (line_kind line)) (λ s. Ok s)

-- a posting line that belongs to no transaction: 4 if it has a wrong byte, else 5 at its first field
abbrev pub stray : List ℕ → Option ℕ → LineFault
stray line (Some place) = fault.WrongByte place
stray line None = fault.Form (rest_at line 0).place

unfoldable pub stray_fault : ℕ → List ℕ → Fault
stray_fault number line = fault_on number (stray line (wrong_byte line))
