-- A journal that is being read: the ledger, the record and the outcomes are those of what was read so far.
use Rattle.std.proofs.Common.{◌≡◌, ℕ, ◌+◌, ◌<◌, ◌≤◌, false, List, ◌++◌, length, Some, None, Option, refl, sym, ap, ◌∙◌, arith}
use Rattle.std.proofs.lemmas.List.{append-nil, length-append}
use Rattle.lots.specs.Orders.{Order}
use Rattle.lines.specs.Lines.{lines_of}
use Rattle.books.specs.declared.outcome.Outcome.{Outcome}
use Rattle.books.specs.States.{empty_ledger}
use Rattle.books.specs.Steps.{state_after}
use Rattle.books.specs.Recording.{record_after_calls}
use Rattle.ledger.specs.Kept.{Kept, in_state}
use Rattle.ledger.specs.declared.slip.Slip.{Slip}
use Rattle.reader.specs.declared.phase.Phase.{Phase}
use Rattle.reader.specs.declared.phase.Phase.TheVariants.{Outside}
use Rattle.reader.specs.Does.{Held, ledger_after, record_after_turn}
use Rattle.reader.specs.Turns.{Turn}
use Rattle.reader.specs.Readings.{Reading, unread, books, listed, took, is_done, step_turn, lines_left, number_left, steps_left, read_from}
use Rattle.journals.specs.Places.{placed, place_one}
use Rattle.journals.proofs.Placing.{placed_more}
use Rattle.journals.proofs.Stepping.{state_append, record_append, one_step}

listed_few : (x : Option Outcome) → length (listed x) ≤ 1
listed_few None = omega arith
listed_few (Some x) = omega arith

module _ {P : Type 0} (order : P → Order) (first : Kept P) (journal before : List ℕ) (old : List Outcome) where
  abbrev o : Order
  o = order first.policy

  abbrev lent : ℕ
  lent = length before

  pub record UnderWay (l : Kept P) (phase : Phase) (rest : List ℕ) (number : ℕ) (book : List ℕ) (answers : List Outcome) (count : ℕ) (slip : Option Slip) : Type 0 where
    pub reading : Reading
    pub phase_is : phase ≡ reading.phase
    pub left : read_from o lent number reading (lines_of rest) ≡ read_from o lent 1 unread (lines_of journal)
    pub ledger : l ≡ in_state first (books o reading)
    pub recorded : book ≡ record_after_calls o empty_ledger reading.calls before
    pub answered : answers ≡ placed reading.outcomes old
    pub counted : count ≡ length reading.outcomes
    pub held : Held phase slip l.state
    pub few : number + length rest ≤ 60001
    pub bounded : count + steps_left phase (length rest) ≤ 120000

  module _ {l : Kept P} {phase : Phase} {rest : List ℕ} {number : ℕ} {book : List ℕ} {answers : List Outcome} {count : ℕ} {slip : Option Slip} (u : UnderWay l phase rest number book answers count slip) (size : length book ≡ lent) where
    abbrev r : Reading
    r = u.reading

    abbrev ls : List (List ℕ)
    ls = lines_of rest

    -- the turn as the step has it, and as the reading has it
    abbrev t0 : Turn
    t0 = step_turn (order l.policy) l.state (length book) number phase ls

    abbrev t : Turn
    t = step_turn o (books o r) lent number r.phase ls

    same : t0 ≡ t
    same =
        ap (λ (k : Kept P). step_turn (order k.policy) k.state (length book) number phase ls) u.ledger
        ∙ ap (λ (n : ℕ). step_turn o (books o r) n number phase ls) size
        ∙ ap (λ (p : Phase). step_turn o (books o r) lent number p ls) u.phase_is

    state_then : state_after (order l.policy) l.state t0.calls ≡ books o (took r t)
    state_then =
        ap (λ (x : Turn). state_after (order l.policy) l.state x.calls) same
        ∙ ap (λ (k : Kept P). state_after (order k.policy) k.state t.calls) u.ledger
        ∙ sym (state_append o empty_ledger r.calls t.calls)

    record_then : record_after_calls (order l.policy) l.state t0.calls book ≡ record_after_calls o empty_ledger (r.calls ++ t.calls) before
    record_then =
        ap (λ (x : Turn). record_after_calls (order l.policy) l.state x.calls book) same
        ∙ ap (λ (k : Kept P). record_after_calls (order k.policy) k.state t.calls book) u.ledger
        ∙ ap (record_after_calls o (books o r) t.calls) u.recorded
        ∙ sym (record_append o empty_ledger r.calls t.calls before)

    placed_then : (x : Option Outcome) → place_one (placed r.outcomes old) (length r.outcomes) x ≡ placed (r.outcomes ++ listed x) old
    placed_then None = ap (λ (xs : List Outcome). placed xs old) (sym (append-nil r.outcomes))
    placed_then (Some x) = sym (placed_more r.outcomes old x)

    module _ (more : is_done phase ls ≡ false) {l' : Kept P} {phase' : Phase} {rest' : List ℕ} {number' : ℕ} {after : List ℕ} {answers' : List Outcome} {count' : ℕ} {slip' : Option Slip} {outcome : Option Outcome}
        (next : phase' ≡ t0.next) (told : outcome ≡ t0.outcome) (kept : l' ≡ ledger_after order l t0) (wrote : after ≡ record_after_turn order l t0 book)
        (lines : lines_of rest' ≡ lines_left phase ls) (numbered : number' ≡ number_left number phase ls) (place : answers' ≡ place_one answers count outcome) (one_more : count' ≡ count + length (listed outcome)) where
      pub stepped : Held phase' slip' l'.state → number' + length rest' ≤ 60001 → steps_left phase' (length rest') < steps_left phase (length rest) → UnderWay l' phase' rest' number' after answers' count' slip'
      stepped held few fewer =
          let at_most : length (listed outcome) ≤ 1 = listed_few outcome in
          let was = u.bounded in
          record {
            reading = took r t;
            phase_is = next ∙ ap (λ (x : Turn). x.next) same;
            left =
                ap (λ (n : ℕ). read_from o lent n (took r t) (lines_of rest')) (numbered ∙ ap (λ (p : Phase). number_left number p ls) u.phase_is)
                ∙ ap (read_from o lent (number_left number r.phase ls) (took r t)) (lines ∙ ap (λ (p : Phase). lines_left p ls) u.phase_is)
                ∙ one_step o lent number r ls (sym (ap (λ (p : Phase). is_done p ls) u.phase_is) ∙ more)
                ∙ u.left;
            ledger = kept ∙ ap (in_state l) state_then ∙ ap (λ (k : Kept P). in_state k (books o (took r t))) u.ledger;
            recorded = wrote ∙ record_then;
            answered =
                place ∙ ap (place_one answers count) (told ∙ ap (λ (x : Turn). x.outcome) same)
                ∙ ap (λ (xs : List Outcome). place_one xs count t.outcome) u.answered
                ∙ ap (λ (n : ℕ). place_one (placed r.outcomes old) n t.outcome) u.counted
                ∙ placed_then t.outcome;
            counted =
                one_more ∙ ap (λ (x : Option Outcome). count + length (listed x)) (told ∙ ap (λ (x : Turn). x.outcome) same)
                ∙ ap (λ (n : ℕ). n + length (listed t.outcome)) u.counted ∙ sym (length-append r.outcomes (listed t.outcome));
            held = held;
            few = few;
            bounded = omega arith;
          }

  -- nothing is read yet
  pub started : first.state ≡ empty_ledger → length journal ≤ 60000 → UnderWay first Outside journal 1 before old 0 None
  started new small = record {
    reading = unread;
    phase_is = refl;
    left = refl;
    ledger = λ i. record { policy = first.policy; state = new i };
    recorded = refl;
    answered = refl;
    counted = refl;
    held = tt;
    few = omega arith;
    bounded = omega arith;
  }
