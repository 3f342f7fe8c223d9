-- The law over runs and what the record holds, of the answers that a run gave.
use Rattle.std.proofs.Common.{◌≡◌, ℕ, List, [], ◌∷◌, ◌++◌, length, min, take, drop, refl, sym, ap, ◌∙◌, arith}
use Rattle.std.specs.List.{AllByRecursion}
use Rattle.std.proofs.lemmas.List.{length-map, take_min}
use Rattle.std.proofs.Math.Seq.{take-append_seam}
use Rattle.lots.specs.Orders.{Order, Keeps}
use Rattle.books.specs.declared.call.Call as code
use Rattle.books.specs.declared.outcome.Outcome.{Outcome}
use Rattle.books.specs.States.{State, empty_ledger}
use Rattle.books.specs.Calls.{Call, settling, writing_header}
use Rattle.books.specs.Given.{given_call}
use Rattle.books.specs.Lending.{LentWithin, lend_within}
use Rattle.books.specs.Steps.{step, outcomes, state_after}
use Rattle.books.specs.Recording.{record_after_calls}
use Rattle.law.specs.Laws.{Lawful}
use Rattle.law.specs.Records.{RecordHolds}
use Rattle.law.proofs.Runs.{books_stand}
use Rattle.law.proofs.RunRecords.{record_stands}
use Rattle.ledger.specs.Kept.{Kept, in_state}
use Rattle.runs.specs.Runs.{given_calls, calls_run, answers_run}

-- calls are lent no more than there is
within : (size : ℕ) (c : Call) → LentWithin size (lend_within size c)
within size (settling slip lent) = omega arith
within size (writing_header lent) = omega arith
within size _ = tt

all_within : (size : ℕ) (calls : List code.Call) → AllByRecursion (LentWithin size) (given_calls size calls)
all_within size [] = tt
all_within size (c ∷ cs) = (within size (given_call c), all_within size cs)

-- one answer for each call
answered_each : (o : Order) (s : State) (cs : List Call) → length (outcomes o s cs) ≡ length cs
answered_each o s [] = refl
answered_each o s (c ∷ cs) = let ih = answered_each o (step o s c).1 cs in omega arith

module _ (o : Order) (calls : List code.Call) (old : List Outcome) (before : List ℕ) where
  abbrev cs : List Call
  cs = calls_run (length old) (length before) calls

  -- the answers of the calls that were run are those of the definition
  first_answers : {answers : List Outcome} → length answers ≡ length old → answers ≡ outcomes o empty_ledger cs ++ drop (length (take (length old) calls)) old → answers_run calls answers ≡ outcomes o empty_ledger cs
  first_answers {answers} same told =
      let outs = outcomes o empty_ledger cs in
      let n : length (take (length answers) calls) ≡ length outs = ap (λ (m : ℕ). length (take m calls)) same ∙ sym (answered_each o empty_ledger cs ∙ length-map (take (length old) calls) (λ (x : code.Call). lend_within (length before) (given_call x))) in
      ap (λ (m : ℕ). take m answers) n ∙ ap (take (length outs)) told ∙ take-append_seam outs (drop (length (take (length old) calls)) old)

  module _ (keeps : Keeps o) {answers : List Outcome} (same : length answers ≡ length old) (told : answers ≡ outcomes o empty_ledger cs ++ drop (length (take (length old) calls)) old) where
    lawful : {end : State} → end ≡ state_after o empty_ledger cs → Lawful o cs (answers_run calls answers) end
    lawful {end} is = rw (first_answers same told, is) (books_stand o keeps cs)

    recorded : {after : List ℕ} → after ≡ record_after_calls o empty_ledger cs before → RecordHolds o cs (answers_run calls answers) before after
    recorded {after} wrote = rw (first_answers same told, wrote) (record_stands o keeps cs before (all_within (length before) (take (length old) calls)))

-- told of a new ledger and of so many calls
module _ {P : Type 0} (order : P → Order) (policy : P) (calls : List code.Call) (old : List Outcome) (before : List ℕ) (keeps : Keeps (order policy)) {new : Kept P} {places : ℕ} {answers : List Outcome}
    (made : new ≡ record { policy = policy; state = empty_ledger }) (many : places ≡ min (length old) (length calls)) (same : length answers ≡ length old)
    (told : answers ≡ outcomes (order new.policy) new.state (given_calls (length before) (take places calls)) ++ drop (length (take places calls)) old) where
  first : take places calls ≡ take (length old) calls
  first = ap (λ (n : ℕ). take n calls) many ∙ take_min (length old) calls

  answered : answers ≡ outcomes (order policy) empty_ledger (calls_run (length old) (length before) calls) ++ drop (length (take (length old) calls)) old
  answered = rw (← first) (told ∙ ap (λ (k : Kept P). outcomes (order k.policy) k.state (given_calls (length before) (take places calls)) ++ drop (length (take places calls)) old) made)

  pub run_lawful : {end : Kept P} → end ≡ in_state new (state_after (order new.policy) new.state (given_calls (length before) (take places calls))) → Lawful (order policy) (calls_run (length old) (length before) calls) (answers_run calls answers) end.state
  run_lawful {end} is =
      lawful (order policy) calls old before keeps same answered
      (ap (λ (k : Kept P). k.state) is ∙ ap (λ (k : Kept P). state_after (order k.policy) k.state (given_calls (length before) (take places calls))) made ∙ ap (λ (cs : List code.Call). state_after (order policy) empty_ledger (given_calls (length before) cs)) first)

  pub run_recorded : {after : List ℕ} → after ≡ record_after_calls (order new.policy) new.state (given_calls (length before) (take places calls)) before → RecordHolds (order policy) (calls_run (length old) (length before) calls) (answers_run calls answers) before after
  run_recorded {after} wrote =
      recorded (order policy) calls old before keeps same answered
      (wrote ∙ ap (λ (k : Kept P). record_after_calls (order k.policy) k.state (given_calls (length before) (take places calls)) before) made ∙ ap (λ (cs : List code.Call). record_after_calls (order policy) empty_ledger (given_calls (length before) cs) before) first)
