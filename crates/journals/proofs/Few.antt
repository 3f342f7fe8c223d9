-- A line has at most two outcomes, and the end of a journal one more.
use Rattle.std.proofs.Common.{◌≡◌, ℕ, ◌+◌, ◌*◌, ◌≤◌, Bool, true, false, List, [], ◌∷◌, length, Some, None, Ok, Err, Option, Result, refl, arith}
use Rattle.std.proofs.lemmas.List.{length-append}
use Rattle.refusal.specs.declared.Fault.{Fault}
use Rattle.books.specs.declared.outcome.Outcome.{Outcome}
use Rattle.lots.specs.Orders.{Order}
use Rattle.lines.specs.Lines.{lines_of, line_kind, journal_fault}
use Rattle.lines.specs.declared.line.LineKind.{LineKind}
use Rattle.reader.specs.Turns.{Turn, line_turn, settling_turn}
use Rattle.reader.specs.Readings.{Reading, unread, books, listed, took, ends_draft, draft_ended, after_line, after_lines, read_from, unless_too_long, journal_read}

listed_few : (x : Option Outcome) → length (listed x) ≤ 1
listed_few None = omega arith
listed_few (Some x) = omega arith

took_few : (r : Reading) (t : Turn) → length (took r t).outcomes ≤ length r.outcomes + 1
took_few r t = omega (arith, length-append r.outcomes (listed t.outcome), listed_few t.outcome)

module _ (o : Order) (lent : ℕ) where
  ended_few : (r : Reading) (k : Option LineKind) → length (draft_ended o lent r k).outcomes ≤ length r.outcomes + 1
  ended_few r k = by (ends_draft r.phase k) refl
    where
      by : (b : Bool) → ends_draft r.phase k ≡ b → length (draft_ended o lent r k).outcomes ≤ length r.outcomes + 1
      by true e = rw e (took_few r (settling_turn o (books o r) lent))
      by false e = rw e (omega arith)

  line_few : (number : ℕ) (r : Reading) (l : List ℕ) → length (after_line o lent number r l).outcomes ≤ length r.outcomes + 2
  line_few number r l =
      let before = draft_ended o lent r (Some (line_kind l)) in
      omega (arith, took_few before (line_turn o (books o before) number l before.phase (line_kind l)), ended_few r (Some (line_kind l)))

  lines_few : (ls : List (List ℕ)) (number : ℕ) (r : Reading) → length (after_lines o lent number r ls).outcomes ≤ length r.outcomes + 2 * length ls
  lines_few [] number r = omega arith
  lines_few (l ∷ ls) number r = omega (arith, lines_few ls (number + 1) (after_line o lent number r l), line_few number r l)

  pub journal_few : (journal : List ℕ) → length (journal_read o lent journal).outcomes ≤ 2 * length (lines_of journal) + 1
  journal_few journal = by (journal_fault journal)
    where
      by : (r : Result (Unit {0}) Fault) → length (unless_too_long r (read_from o lent 1 unread (lines_of journal))).outcomes ≤ 2 * length (lines_of journal) + 1
      by (Ok x) = omega (arith, ended_few (after_lines o lent 1 unread (lines_of journal)) None, lines_few (lines_of journal) 1 unread)
      by (Err f) = omega arith
