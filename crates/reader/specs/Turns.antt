-- What one step of the reader does, upon a ledger and a line.
use Rattle.std.specs.Prelude.{ℕ, cond, List, [], ◌∷◌, Some, None, Ok, Err, Option, Result}
use Rattle.refusal.specs.declared.Fault.{Fault}
use Rattle.std.specs.Option.{option_map}
use Rattle.lots.specs.Orders.{Order}
use Rattle.lines.specs.Faults.{fault_on}
use Rattle.lines.specs.Lines.{line_says, stray_fault}
use Rattle.lines.specs.Said.{Said, transaction, posting}
use Rattle.lines.specs.declared.fault.LineFault.TheVariants as fault
use Rattle.lines.specs.declared.line.LineKind.{LineKind}
use Rattle.lines.specs.declared.line.LineKind.TheVariants as kind
use Rattle.books.specs.declared.outcome.Outcome.{Outcome}
use Rattle.books.specs.declared.outcome.Outcome.TheVariants.{Refused}
use Rattle.books.specs.Calls.{Call, settling, tearing}
use Rattle.books.specs.Calls as call
use Rattle.books.specs.States.{State, next_number}
use Rattle.books.specs.Steps.{step}
use Rattle.law.specs.Histories.{accepted}
use Rattle.reader.specs.declared.phase.Phase.{Phase}
use Rattle.reader.specs.declared.phase.Phase.TheVariants.{Outside, InTransaction, Skipping}
use Rattle.reader.specs.Asked.{call_asked, units_given}

-- the calls that it makes, its outcome if it has one, and where the reader is after it
pub record Turn : Type 0 where
  pub calls : List Call
  pub outcome : Option Outcome
  pub next : Phase

abbrev pub quiet : Phase → Turn
quiet next = record { calls = []; outcome = None; next = next }

-- a line that is refused as it stands: the posting lines straight below it are skipped
abbrev pub refused : Fault → Turn
refused f = record { calls = []; outcome = Some (Refused f); next = Skipping }

-- a call that is refused skips what belongs to it
abbrev pub calling : Order → State → Phase → Option Call → Turn
calling o s next None = quiet next
calling o s next (Some c) = record { calls = c ∷ []; outcome = Some (step o s c).0; next = cond (accepted (step o s c).0) next Skipping }

-- a call for the draft under way; if it is refused, the draft is torn
abbrev pub or_torn : State → Call → Outcome → List Call
or_torn s c x = cond (accepted x) (c ∷ []) (c ∷ tearing (next_number s) ∷ [])

-- a directive line, outside of a transaction or after a refused line; a transaction's first line, accepted, leads into it
abbrev pub said_turn : Order → State → ℕ → Said → Turn
said_turn o s number (transaction d flag text) = calling o s InTransaction (call_asked number (next_number s) (transaction d flag text))
said_turn o s number (posting p) = refused (fault_on number (fault.Form p.account.place))
said_turn o s number d = calling o s Outside (call_asked number (next_number s) d)

abbrev pub directive_turn : Order → State → ℕ → Result (Option Said) Fault → Turn
directive_turn o s number (Err f) = refused f
directive_turn o s number (Ok None) = quiet Outside
directive_turn o s number (Ok (Some d)) = said_turn o s number d

-- a posting line of the transaction under way, which says a posting; if it is refused, the draft is torn
abbrev pub posted : Order → State → Call → Turn
posted o s c = record { calls = or_torn s c (step o s c).0; outcome = Some (step o s c).0; next = cond (accepted (step o s c).0) InTransaction Skipping }

abbrev pub posting_turn : Order → State → ℕ → Result (Option Said) Fault → Turn
posting_turn o s number (Err f) = record { calls = tearing (next_number s) ∷ []; outcome = Some (Refused f); next = Skipping }
posting_turn o s number (Ok (Some (posting p))) = posted o s (call.posting (next_number s) number p.account.text (option_map units_given p.units))
posting_turn o s number (Ok other) = quiet InTransaction

-- the draft under way is settled, lent so much of the record; a draft that is refused then is torn
abbrev pub settling_turn : Order → State → ℕ → Turn
settling_turn o s lent =
    record { calls = or_torn s (settling (next_number s) lent) (step o s (settling (next_number s) lent)).0; outcome = Some (step o s (settling (next_number s) lent)).0; next = Outside }

-- what a line does depends on where the reader is and on the line's kind
abbrev pub line_turn : Order → State → ℕ → List ℕ → Phase → LineKind → Turn
line_turn o s number line phase kind.Blank = quiet Outside
line_turn o s number line Outside kind.Posting = refused (stray_fault number line)
line_turn o s number line InTransaction kind.Posting = posting_turn o s number (line_says number line)
line_turn o s number line Skipping kind.Posting = quiet Skipping
line_turn o s number line phase kind.Other = directive_turn o s number (line_says number line)
