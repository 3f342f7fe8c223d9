-- When what a journal says is accepted, in the words of the grammar and of the list of refusals.
use Rattle.std.specs.Prelude.{◌≡◌, ℕ, ◌+◌, Bool, true, false, List, ◌∷◌, ◌++◌, length, Some, None, Option}
use Rattle.std.specs.List.{AllByRecursion}
use Rattle.lots.specs.Orders.{Order}
use Rattle.lines.specs.Grammar.{Written}
use Rattle.lines.specs.Lines.{line_kind}
use Rattle.lines.specs.Said.{Said}
use Rattle.lines.specs.declared.line.LineKind.{LineKind}
use Rattle.lines.specs.declared.line.LineKind.TheVariants as kind
use Rattle.books.specs.declared.outcome.Outcome.{Outcome}
use Rattle.books.specs.Calls.{Call, settling}
use Rattle.books.specs.Refusals.{tests}
use Rattle.books.specs.States.{State, next_number}
use Rattle.law.specs.Histories.{accepted}
use Rattle.reader.specs.declared.phase.Phase.{Phase}
use Rattle.reader.specs.declared.phase.Phase.TheVariants.{Outside, InTransaction, Skipping}
use Rattle.reader.specs.Asked.{call_asked}
use Rattle.reader.specs.Turns.{line_turn, settling_turn}
use Rattle.reader.specs.Readings.{Reading, unread, books, draft_ended, after_lines}

-- something is answered yes where, and only where, a fact holds
pub record Exactly (answer : Bool) (Fact : Type 0) : Type 0 where
  pub only_where : answer ≡ true → Fact
  pub wherever : Fact → answer ≡ true

-- a line that has no outcome is an option line: nothing refuses it
abbrev pub outcome_accepted : Option Outcome → Bool
outcome_accepted None = true
outcome_accepted (Some x) = accepted x

-- the books allow a call where it meets no refusal of the list
abbrev pub BooksAllow : Order → State → Option Call → Type 0
BooksAllow o s None = Unit {0}
BooksAllow o s (Some c) = AllByRecursion (λ t. t.met ≡ false) (tests o s c)

-- the line is written in a form of the grammar, and the books allow what it says there
abbrev pub Allowed : Order → State → ℕ → List ℕ → Type 0
Allowed o s number line = (d : Said) × Written number line d × BooksAllow o s (call_asked number (next_number s) d)

-- A directive line, and a posting line of a transaction under way, are accepted exactly where grammar and books allow them.
-- A posting line that belongs to no transaction is refused, and below a refused line it is not looked at.
abbrev pub LineExactly : Order → State → ℕ → List ℕ → Phase → LineKind → Type 0
LineExactly o s number line phase kind.Blank = Unit {0}
LineExactly o s number line Outside kind.Posting = outcome_accepted (line_turn o s number line Outside kind.Posting).outcome ≡ false
LineExactly o s number line InTransaction kind.Posting = Exactly (outcome_accepted (line_turn o s number line InTransaction kind.Posting).outcome) (Allowed o s number line)
LineExactly o s number line Skipping kind.Posting = (line_turn o s number line Skipping kind.Posting).outcome ≡ None
LineExactly o s number line phase kind.Other = Exactly (outcome_accepted (line_turn o s number line phase kind.Other).outcome) (Allowed o s number line)

-- a draft is settled exactly where the books allow that
abbrev pub DraftExactly : Order → ℕ → State → Type 0
DraftExactly o lent s = Exactly (outcome_accepted (settling_turn o s lent).outcome) (BooksAllow o s (Some (settling (next_number s) lent)))

-- what was read before a line, the draft that the line ends settled or torn
abbrev pub read_before : Order → ℕ → List (List ℕ) → List ℕ → Reading
read_before o lent before line = draft_ended o lent (after_lines o lent 1 unread before) (Some (line_kind line))

-- each line of a journal, upon the books that the lines before it leave, and each draft
pub record AcceptedExactly (o : Order) (lent : ℕ) (lines : List (List ℕ)) : Type 0 where
  pub each_line : (before : List (List ℕ)) (line : List ℕ) (behind : List (List ℕ)) → lines ≡ before ++ line ∷ behind
      → LineExactly o (books o (read_before o lent before line)) (length before + 1) line (read_before o lent before line).phase (line_kind line)
  pub each_draft : (before behind : List (List ℕ)) → lines ≡ before ++ behind → DraftExactly o lent (books o (after_lines o lent 1 unread before))
