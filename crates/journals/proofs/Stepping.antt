-- One step of the reader: what is left gives the rest of the reading.
use Rattle.std.proofs.Common.{◌≡◌, ℕ, ◌+◌, Bool, true, false, cond, not, List, [], ◌∷◌, ◌++◌, Some, None, refl}
use Rattle.lots.specs.Orders.{Order}
use Rattle.lines.specs.Lines.{line_kind}
use Rattle.books.specs.Calls.{Call}
use Rattle.books.specs.States.{State}
use Rattle.books.specs.Steps.{step, state_after}
use Rattle.books.specs.Recording.{record_after_call, record_after_calls}
use Rattle.reader.specs.Turns.{line_turn, settling_turn}
use Rattle.reader.specs.Readings.{Reading, books, took, line_taken, ends_draft, is_done, step_turn, lines_left, number_left, read_from}

pub state_append : (o : Order) (s : State) (cs ds : List Call) → state_after o s (cs ++ ds) ≡ state_after o (state_after o s cs) ds
state_append o s [] ds = refl
state_append o s (c ∷ cs) ds = state_append o (step o s c).1 cs ds

pub record_append : (o : Order) (s : State) (cs ds : List Call) (book : List ℕ) → record_after_calls o s (cs ++ ds) book ≡ record_after_calls o (state_after o s cs) ds (record_after_calls o s cs book)
record_append o s [] ds book = refl
record_append o s (c ∷ cs) ds book = record_append o (step o s c).1 cs ds (record_after_call o s c book)

-- a line, whether or not a draft is ended before it
by_line : (o : Order) (lent number : ℕ) (r : Reading) (l : List ℕ) (ls : List (List ℕ)) (ends : Bool)
    → read_from o lent (cond ends number (number + 1)) (took r (cond ends (settling_turn o (books o r) lent) (line_turn o (books o r) number l r.phase (line_kind l)))) (cond ends (l ∷ ls) ls)
    ≡ read_from o lent (number + 1) (line_taken o number l (cond ends (took r (settling_turn o (books o r) lent)) r)) ls
by_line o lent number r l ls true = refl
by_line o lent number r l ls false = refl

pub one_step : (o : Order) (lent number : ℕ) (r : Reading) (ls : List (List ℕ)) → is_done r.phase ls ≡ false
    → read_from o lent (number_left number r.phase ls) (took r (step_turn o (books o r) lent number r.phase ls)) (lines_left r.phase ls) ≡ read_from o lent number r ls
one_step o lent number r [] more = by (ends_draft r.phase None) refl more
  where
    by : (b : Bool) → ends_draft r.phase None ≡ b → not b ≡ false → read_from o lent number (took r (step_turn o (books o r) lent number r.phase [])) [] ≡ read_from o lent number r []
    by true e more = rw e refl
    by false e more = cc
one_step o lent number r (l ∷ ls) more = by_line o lent number r l ls (ends_draft r.phase (Some (line_kind l)))
