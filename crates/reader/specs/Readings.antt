-- A whole journal: line after line, and at its end the draft that is under way.
use Rattle.std.specs.Prelude.{ℕ, ◌+◌, ◌*◌, Bool, true, false, cond, not, List, [], ◌∷◌, ◌++◌, Some, None, Ok, Err, Option, Result}
use Rattle.refusal.specs.declared.Fault.{Fault}
use Rattle.lots.specs.Orders.{Order}
use Rattle.lines.specs.Lines.{lines_of, line_kind, journal_fault}
use Rattle.lines.specs.declared.line.LineKind.{LineKind}
use Rattle.lines.specs.declared.line.LineKind.TheVariants as kind
use Rattle.books.specs.declared.outcome.Outcome.{Outcome}
use Rattle.books.specs.declared.outcome.Outcome.TheVariants.{Refused}
use Rattle.books.specs.Calls.{Call}
use Rattle.books.specs.States.{State, empty_ledger}
use Rattle.books.specs.Steps.{state_after}
use Rattle.reader.specs.declared.phase.Phase.{Phase}
use Rattle.reader.specs.declared.phase.Phase.TheVariants.{Outside, InTransaction, Skipping}
use Rattle.reader.specs.Turns.{Turn, quiet, line_turn, settling_turn}

-- where the reader is, the calls that it made so far on a new ledger, and the outcomes so far
pub record Reading : Type 0 where
  pub phase : Phase
  pub calls : List Call
  pub outcomes : List Outcome

abbrev pub unread : Reading
unread = record { phase = Outside; calls = []; outcomes = [] }

-- the ledger after these calls
abbrev pub books : Order → Reading → State
books o r = state_after o empty_ledger r.calls

abbrev pub listed : Option Outcome → List Outcome
listed None = []
listed (Some x) = x ∷ []

abbrev pub took : Reading → Turn → Reading
took r t = record { phase = t.next; calls = r.calls ++ t.calls; outcomes = r.outcomes ++ listed t.outcome }

-- in a transaction, any line but a posting line ends the draft, and so does the end of the journal
abbrev pub ends_draft : Phase → Option LineKind → Bool
ends_draft Outside k = false
ends_draft Skipping k = false
ends_draft InTransaction None = true
ends_draft InTransaction (Some kind.Blank) = true
ends_draft InTransaction (Some kind.Posting) = false
ends_draft InTransaction (Some kind.Other) = true

-- what the next step does: it settles a draft that is ended, or else takes the next line
abbrev pub taking_turn : Order → State → ℕ → ℕ → Phase → List ℕ → Turn
taking_turn o s lent number phase line = cond (ends_draft phase (Some (line_kind line))) (settling_turn o s lent) (line_turn o s number line phase (line_kind line))

abbrev pub step_turn : Order → State → ℕ → ℕ → Phase → List (List ℕ) → Turn
step_turn o s lent number phase [] = cond (ends_draft phase None) (settling_turn o s lent) (quiet Outside)
step_turn o s lent number phase (l ∷ ls) = taking_turn o s lent number phase l

-- no line is left, and no draft to end
abbrev pub is_done : Phase → List (List ℕ) → Bool
is_done phase [] = not (ends_draft phase None)
is_done phase (l ∷ ls) = false

-- the lines that it leaves, and the number of the first of them
abbrev pub lines_left : Phase → List (List ℕ) → List (List ℕ)
lines_left phase [] = []
lines_left phase (l ∷ ls) = cond (ends_draft phase (Some (line_kind l))) (l ∷ ls) ls

abbrev pub number_left : ℕ → Phase → List (List ℕ) → ℕ
number_left number phase [] = number
number_left number phase (l ∷ ls) = cond (ends_draft phase (Some (line_kind l))) number (number + 1)

-- how many steps there may be yet, with so many bytes left: two for each line, and one for a draft
abbrev pub steps_left : Phase → ℕ → ℕ
steps_left phase bytes = 2 * bytes + cond (ends_draft phase None) 1 0

-- the draft that is ended is settled first, as a step of its own
abbrev pub draft_ended : Order → ℕ → Reading → Option LineKind → Reading
draft_ended o lent r k = cond (ends_draft r.phase k) (took r (settling_turn o (books o r) lent)) r

abbrev pub line_taken : Order → ℕ → List ℕ → Reading → Reading
line_taken o number line r = took r (line_turn o (books o r) number line r.phase (line_kind line))

abbrev pub after_line : Order → ℕ → ℕ → Reading → List ℕ → Reading
after_line o lent number r line = line_taken o number line (draft_ended o lent r (Some (line_kind line)))

abbrev pub after_lines : Order → ℕ → ℕ → Reading → List (List ℕ) → Reading
after_lines o lent number r [] = r
after_lines o lent number r (l ∷ ls) = after_lines o lent (number + 1) (after_line o lent number r l) ls

-- the lines from a number on, and the end
abbrev pub read_from : Order → ℕ → ℕ → Reading → List (List ℕ) → Reading
read_from o lent number r ls = draft_ended o lent (after_lines o lent number r ls) None

-- a journal that is too long is refused as a whole
abbrev pub unless_too_long : Result (Unit {0}) Fault → Reading → Reading
unless_too_long (Ok _) r = r
unless_too_long (Err f) r = record { phase = Outside; calls = []; outcomes = Refused f ∷ [] }

-- what is read of a journal, each settling lent so many bytes of the record
abbrev pub journal_read : Order → ℕ → List ℕ → Reading
journal_read o lent journal = unless_too_long (journal_fault journal) (read_from o lent 1 unread (lines_of journal))
