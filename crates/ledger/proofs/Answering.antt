-- A call whose table is checked first: refused it answers the first refusal that is met, else it is carried out.
use Rattle.std.proofs.Common.{◌≡◌, ℕ, Bool, List, Some, None, Ok, Err, Option, Result, refl, sym, ap, ◌∙◌}
use Rattle.std.specs.Result.{result_map_both, IsErrAnd}
use Rattle.refusal.specs.declared.Refusal.{Refusal}
use Rattle.refusal.specs.declared.Fault.{Fault}
use Rattle.refusal.specs.Faults.{fault_at}
use Rattle.refusal.specs.Refusing.{first_met, unless}
use Rattle.lots.specs.Orders.{Order}
use Rattle.booking.specs.Booking.{at_line}
use Rattle.books.specs.declared.outcome.Outcome.{Outcome}
use Rattle.books.specs.States.{State}
use Rattle.books.specs.Calls.{Call, opening}
use Rattle.books.specs.Refusals.{tests, tests_at, opening_tests, refusal, first_fault_met}
use Rattle.books.specs.Changes.{change, reply}
use Rattle.books.specs.Steps.{answered, step, AnswersFirst}
use Rattle.books.proofs.Firsts.{answers_first_met}
use Rattle.books.proofs.Nested.{first_at}
use Rattle.ledger.specs.Answers.{carried_out, outcome_of}
use Rattle.ledger.specs.Kept.{Kept, in_state}

-- a call's refusal is the first that its table meets
pub by_table : (o : Order) (s : State) (c : Call) (line : ℕ) (ts : List (Refusal × Bool)) → tests o s c ≡ tests_at line ts → refusal o s c ≡ at_line line (first_met ts)
by_table o s c line ts table = ap first_fault_met table ∙ first_at line ts

-- an opening's too, whether or not it names an own commodity
pub opening_by_table : (o : Order) (s : State) (source date : ℕ) (name : List ℕ) (own : Option (List ℕ)) → refusal o s (opening source date name own) ≡ at_line source (first_met (opening_tests s date name own))
opening_by_table o s source date name own = by_table o s (opening source date name own) source (opening_tests s date name own) refl

module _ {P : Type 0} (order : P → Order) (l : Kept P) (c : Call) (line : ℕ) (ts : List (Refusal × Bool)) (table : refusal (order l.policy) l.state c ≡ first_fault_met (tests_at line ts)) where
  -- what the call answers and leaves if it meets this refusal, or none
  by_refusal : (r : Option Refusal) → first_met ts ≡ r → (let a = answered (order l.policy) l.state c (at_line line r) in (a.0, in_state l a.1)) ≡ carried_out order l c
  by_refusal r met = ap (λ f. let a = answered (order l.policy) l.state c f in (a.0, in_state l a.1)) (sym (table ∙ first_at line ts ∙ ap (at_line line) met))

  pub call_refused : {X Y : Type 0} {checked : Result X Refusal} {f : Fault} (accepted : Y → Outcome) (x : X) (out : Result Y Fault) → checked ≡ unless (first_met ts) x → Err f ≡ result_map_both (λ z. z) (fault_at line) checked → IsErrAnd out (λ e. e ≡ f) → (outcome_of accepted out, l) ≡ carried_out order l c
  call_refused {X} {Y} {checked} {f} accepted x out = by out (first_met ts) refl
    where
      by : (out : Result Y Fault) (r : Option Refusal) → first_met ts ≡ r → checked ≡ unless r x → Err f ≡ result_map_both (λ z. z) (fault_at line) checked → IsErrAnd out (λ e. e ≡ f) → (outcome_of accepted out, l) ≡ carried_out order l c
      by (Ok y) r met is told same = absurd same
      by (Err e) None met is told same = cc
      by (Err e) (Some r) met is told same = let z : e ≡ fault_at line r = cc in rw z (by_refusal (Some r) met)

  pub call_accepted : {X : Type 0} {y : X} {checked : Result X Refusal} {out : Outcome} {k : Kept P} {t : State} (x : X) → checked ≡ unless (first_met ts) x → Ok y ≡ result_map_both (λ z. z) (fault_at line) checked → out ≡ reply l.state c → k ≡ in_state l t → (y ≡ x → t ≡ change (order l.policy) l.state c) → (out, k) ≡ carried_out order l c
  call_accepted {X} {y} {checked} {out} {k} {t} x = by (first_met ts) refl
    where
      by : (r : Option Refusal) → first_met ts ≡ r → checked ≡ unless r x → Ok y ≡ result_map_both (λ z. z) (fault_at line) checked → out ≡ reply l.state c → k ≡ in_state l t → (y ≡ x → t ≡ change (order l.policy) l.state c) → (out, k) ≡ carried_out order l c
      by None met is told replied left changed = rw (replied, left, changed (cc)) (by_refusal None met)
      by (Some r) met is told replied left changed = cc

-- what is carried out answers the first refusal of its table
pub answers_first : {P : Type 0} (order : P → Order) (l : Kept P) (c : Call) {x : Outcome} {k : Kept P} → (x, k) ≡ carried_out order l c → AnswersFirst (order l.policy) l.state c (x, k.state)
answers_first {P} order l c {x} {k} e =
    let same : (x, k.state) ≡ step (order l.policy) l.state c = ap (λ (r : Outcome × Kept P). (r.0, r.1.state)) e in
    rw same (answers_first_met (order l.policy) l.state c)
