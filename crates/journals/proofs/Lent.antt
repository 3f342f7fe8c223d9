-- The calls that a journal comes to are lent no more than the record has.
use Rattle.std.proofs.Common.{ℕ, ◌+◌, List, [], ◌∷◌, Some, None, Ok, Err, Option, Result, arith}
use Rattle.std.proofs.ByRecursion.{All-append}
use Rattle.std.proofs.lemmas.Bool.{cond_both}
use Rattle.std.specs.List.{AllByRecursion}
use Rattle.refusal.specs.declared.Fault.{Fault}
use Rattle.lots.specs.Orders.{Order}
use Rattle.lines.specs.Lines.{lines_of, line_kind, line_says, journal_fault}
use Rattle.lines.specs.Said.{Said, booking_method, commodity, opening, closing, balance, transaction, posting}
use Rattle.lines.specs.declared.line.LineKind.{LineKind}
use Rattle.lines.specs.declared.line.LineKind.TheVariants as kind
use Rattle.books.specs.declared.outcome.Outcome.{Outcome}
use Rattle.books.specs.Calls.{Call, tearing}
use Rattle.books.specs.Lending.{LentWithin}
use Rattle.books.specs.States.{State, next_number}
use Rattle.law.specs.Histories.{accepted}
use Rattle.reader.specs.declared.phase.Phase.{Phase}
use Rattle.reader.specs.declared.phase.Phase.TheVariants.{Outside, InTransaction, Skipping}
use Rattle.reader.specs.Turns.{or_torn, said_turn, directive_turn, posting_turn, settling_turn, line_turn}
use Rattle.reader.specs.Readings.{Reading, unread, books, took, ends_draft, draft_ended, after_line, after_lines, read_from, unless_too_long, journal_read}

module _ (o : Order) (lent : ℕ) where
  abbrev All : List Call → Type 0
  All cs = AllByRecursion (LentWithin lent) cs

  torn_too : (s : State) (c : Call) (x : Outcome) → LentWithin lent c → All (or_torn s c x)
  torn_too s c x l = cond_both (accepted x) (c ∷ []) (c ∷ tearing (next_number s) ∷ []) All (λ _. (l, tt)) (λ _. (l, (tt, tt)))

  settled : (s : State) → All (settling_turn o s lent).calls
  settled s = torn_too s _ _ (omega arith)

  said : (s : State) (number : ℕ) (d : Said) → All (said_turn o s number d).calls
  said s number (booking_method m) = tt
  said s number (commodity d name) = (tt, tt)
  said s number (opening d account own) = (tt, tt)
  said s number (closing d account) = (tt, tt)
  said s number (balance d account n z c) = (tt, tt)
  said s number (transaction d flag text) = (tt, tt)
  said s number (posting p) = tt

  directive : (s : State) (number : ℕ) (r : Result (Option Said) Fault) → All (directive_turn o s number r).calls
  directive s number (Err f) = tt
  directive s number (Ok None) = tt
  directive s number (Ok (Some d)) = said s number d

  post : (s : State) (number : ℕ) (r : Result (Option Said) Fault) → All (posting_turn o s number r).calls
  post s number (Err f) = (tt, tt)
  post s number (Ok (Some (posting p))) = torn_too s _ _ tt
  post s number (Ok other) = tt

  line : (s : State) (number : ℕ) (l : List ℕ) (phase : Phase) (k : LineKind) → All (line_turn o s number l phase k).calls
  line s number l phase kind.Blank = tt
  line s number l Outside kind.Posting = tt
  line s number l InTransaction kind.Posting = post s number (line_says number l)
  line s number l Skipping kind.Posting = tt
  line s number l phase kind.Other = directive s number (line_says number l)

  ended : (r : Reading) (k : Option LineKind) → All r.calls → All (draft_ended o lent r k).calls
  ended r k all =
      cond_both (ends_draft r.phase k) (took r (settling_turn o (books o r) lent)) r (λ (x : Reading). All x.calls)
      (λ _. All-append (LentWithin lent) _ _ all (settled (books o r)))
      (λ _. all)

  lines : (number : ℕ) (ls : List (List ℕ)) (r : Reading) → All r.calls → All (after_lines o lent number r ls).calls
  lines number [] r all = all
  lines number (l ∷ ls) r all =
      let e = draft_ended o lent r (Some (line_kind l)) in
      lines (number + 1) ls (after_line o lent number r l) (All-append (LentWithin lent) _ _ (ended r (Some (line_kind l)) all) (line (books o e) number l e.phase (line_kind l)))

  pub journal_within : (journal : List ℕ) → All (journal_read o lent journal).calls
  journal_within journal = by (journal_fault journal)
    where
      by : (q : Result (Unit {0}) Fault) → All (unless_too_long q (read_from o lent 1 unread (lines_of journal))).calls
      by (Ok x) = ended (after_lines o lent 1 unread (lines_of journal)) None (lines 1 (lines_of journal) unread tt)
      by (Err f) = tt
