-- What settling a draft will leave: booked, weighed, and asked for room.
use Rattle.std.proofs.Common.{◌≡◌, ℕ, ◌+◌, Bool, true, false, List, [], ◌∷◌, Some, None, Ok, Err, Option, Result, refl, ◌∙◌, arith}
use Rattle.std.proofs.lemmas.Grind.{common_steps}
use Rattle.std.specs.Result.{result_map_both}
use Rattle.refusal.specs.declared.Refusal.{Refusal}
use Rattle.refusal.specs.declared.Refusal.TheVariants.{NoSuchDraft}
use Rattle.refusal.specs.declared.Fault.{Fault}
use Rattle.refusal.specs.Faults.{fault_at}
use Rattle.refusal.specs.Refusing.{first_met, unless}
use Rattle.lots.specs.Orders.{Order}
use Rattle.stock.specs.Promises.{map_ok}
use Rattle.stock.specs.Tables.{Table}
use Rattle.booking.specs.declared.draft.Draft.{Draft}
use Rattle.booking.specs.declared.entry.Entry.{Entry}
use Rattle.booking.specs.declared.entry.Transaction.{Transaction}
use Rattle.booking.specs.declared.posting.Posting.{Posting}
use Rattle.booking.specs.Booking.{table_after, first_fault}
use Rattle.booking.specs.Stages.{book_draft}
use Rattle.books.specs.States.{State}
use Rattle.books.specs.Conditions.{no_such_draft}
use Rattle.books.specs.Refusals.{draft_entries, draft_tests, first_fault_met}
use Rattle.books.specs.Recording.{transaction_of}
use Rattle.books.proofs.Nested.{draft_first}
use Rattle.ledger.specs.Kept.{Kept}
use Rattle.ledger.proofs.Weighing.{passed_is}
use Rattle.ledger.specs.Settling.{Plan, weighed_draft, plan, planned, planned_for}

-- booked upon the lots of a ledger, told by its parts
pub booked_there : {P : Type 0} (order : P → Order) {k l : Kept P} {t : Table} {r : Result (Table × List Entry) Fault} (day : ℕ) (ps : List Posting) → k ≡ l → t ≡ k.state.books.table → r ≡ book_draft (order k.policy) day t ps → r ≡ book_draft (order l.policy) day l.state.books.table ps
booked_there order day ps same there is = cc

-- what a check found, behind the report of its fault
pub passed_report : {X Y : Type 0} (line : ℕ) (f : X → Y) (r : Result X Refusal) {x : X} {w : Result Y Refusal} → Ok x ≡ result_map_both (λ z. z) (fault_at line) r → map_ok f r ≡ w → Ok (f x) ≡ w
passed_report line f (Ok x) told is = cc
passed_report line f (Err e) told is = cc

module _ (o : Order) (s : State) (lent : ℕ) (d : Draft) where
  abbrev es : List Entry
  es = draft_entries o s d

  abbrev booked : Table × List Entry
  booked = (table_after o d.date s.books.table d.postings, es)

  pub lots_refused : {f : Fault} → Err f ≡ book_draft o d.date s.books.table d.postings → Err f ≡ planned o s lent d
  lots_refused {f} is = by (first_fault o d.date s.books.table d.postings) refl is
    where
      by : (r : Option Fault) → first_fault o d.date s.books.table d.postings ≡ r → Err f ≡ unless r booked → Err f ≡ planned o s lent d
      by None met told = cc
      by (Some e) met told = let first = draft_first o s lent d in grind (arith, common_steps)

  pub draft_refused : {b : Table × List Entry} {X : Type 0} (r : Result X Refusal) {f : Fault} (g : X → List Entry) → Ok b ≡ book_draft o d.date s.books.table d.postings → map_ok g r ≡ weighed_draft s lent d b.1 → Err f ≡ result_map_both (λ x. x) (fault_at d.line) r → Err f ≡ planned o s lent d
  draft_refused {b} (Ok x) {f} g is weighed told = cc
  draft_refused {b} (Err e) {f} g is weighed told =
      let first = draft_first o s lent d in
      let same = passed_is (first_fault o d.date s.books.table d.postings) booked b is in
      grind (arith, common_steps)

  pub planned_as : {b : Table × List Entry} {X : Type 0} {t : Transaction} (r : Result X Refusal) {x : X} (g : X → List Entry) → t ≡ transaction_of (s.transactions + 1) d → Ok b ≡ book_draft o d.date s.books.table d.postings → map_ok g r ≡ weighed_draft s lent d b.1 → Ok x ≡ result_map_both (λ x. x) (fault_at d.line) r → Ok (plan t (b.0, g x)) ≡ planned o s lent d
  planned_as {b} {X} {t} (Err e) {x} g numbered is weighed told = cc
  planned_as {b} {X} {t} (Ok y) {x} g numbered is weighed told =
      let first = draft_first o s lent d in
      let same = passed_is (first_fault o d.date s.books.table d.postings) booked b is in
      grind (arith, common_steps)

mapped_twice : {X Y Z E : Type 0} (f : X → Y) (g : Y → Z) (r : Result X E) → map_ok (λ x. g (f x)) r ≡ map_ok g (map_ok f r)
mapped_twice f g (Ok x) = refl
mapped_twice f g (Err e) = refl

-- a settling whose slip has a draft, told by the draft
module _ (o : Order) (s : State) (slip lent : ℕ) where
  pub planned_where : {d : Draft} {X : Type 0} (f : X → Plan) (r : Result X Fault) → Ok (Some d) ≡ unless (first_met ((NoSuchDraft, no_such_draft s slip) ∷ [])) s.draft → map_ok f r ≡ planned o s lent d → map_ok (λ x. Some (f x)) r ≡ planned_for o s slip lent
  planned_where {d} f r there is = mapped_twice f Some r ∙ by (no_such_draft s slip) refl s.draft refl (cc) (first_fault_met (draft_tests o s lent d)) refl
    where
      by : (b : Bool) → no_such_draft s slip ≡ b → (x : Option Draft) → s.draft ≡ x → Ok (Some d) ≡ unless (first_met ((NoSuchDraft, b) ∷ [])) x → (q : Option Fault) → first_fault_met (draft_tests o s lent d) ≡ q → map_ok Some (map_ok f r) ≡ planned_for o s slip lent
      by true other x drafted told q met = cc
      by false other None drafted told q met = cc
      by false other (Some d') drafted told None met = rw (is, other, drafted) (cc)
      by false other (Some d') drafted told (Some f) met = rw (is, other, drafted) (cc)
