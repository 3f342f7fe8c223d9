-- A booked draft that is weighed, and then asked for room in the record.
use Rattle.std.proofs.Common.{◌≡◌, ℕ, ◌+◌, List, length, ℤ, Some, None, Ok, Err, Option, Result, sym, ap, arith}
use Rattle.record.specs.Layout.{room_for}
use Rattle.std.proofs.lemmas.Grind.{common_steps}
use Rattle.std.specs.Result.{IsErrAnd, OnOk}
use Rattle.refusal.specs.declared.Refusal.{Refusal}
use Rattle.refusal.specs.Refusing.{first_met, unless}
use Rattle.stock.specs.Promises.{map_ok}
use Rattle.booking.specs.declared.draft.Draft.{Draft}
use Rattle.booking.specs.declared.entry.Entry.{Entry}
use Rattle.booking.specs.declared.posting.Posting.{Posting}
use Rattle.booking.specs.Balances.{weighing_tests}
use Rattle.booking.specs.Weighing.{blank_account, complete}
use Rattle.books.specs.Lookups.{own_of}
use Rattle.books.specs.Refusals.{record_tests}
use Rattle.books.specs.States.{State}
use Rattle.ledger.specs.Kept.{Kept}
use Rattle.ledger.specs.Settling.{weighed_draft}
use Rattle.ledger.proofs.Turns.{refused_before, passed_before}

pub err_stays : {X Y E : Type 0} (f : X → Y) (r : Result X E) {w : Result Y E} {e : E} → IsErrAnd r (λ d. d ≡ e) → Err e ≡ w → map_ok f r ≡ w
err_stays f (Ok x) same is = absurd same
err_stays f (Err d) same is = cc

pub on_ok : {X : Type 0} (r : Result X Refusal) {F : Type 0} → F → OnOk r F
on_ok (Ok x) f = f
on_ok (Err e) f = tt

pub same_state : {P : Type 0} {k l : Kept P} → k ≡ l → k.state ≡ l.state
same_state e = ap (λ k. k.state) e

pub passed_is : {X E : Type 0} (r : Option E) (x y : X) → Ok y ≡ unless r x → y ≡ x
passed_is None x y e = cc
passed_is (Some refusal) x y e = cc

module _ (s : State) (lent : ℕ) (d : Draft) (es : List Entry) where
  abbrev after : List Entry
  after = complete es

  pub weighing_refused : (x : List Entry) {ps : List Posting} {own : Option ℕ} {bs : List ℤ} {e : Refusal} → ps ≡ d.postings → own ≡ own_of s.names (blank_account es) → bs ≡ s.books.balances → Err e ≡ unless (first_met (weighing_tests ps own bs es)) x → Err e ≡ weighed_draft s lent d es
  weighing_refused x {ps} {own} {bs} {e} same_postings same_own same_balances is =
      sym (refused_before (weighing_tests d.postings (own_of s.names (blank_account es)) s.books.balances es) (record_tests lent (s.rows + length es)) e x after (cc))

  pub weighing_passed : (x y : List Entry) (ps : List Posting) (own : Option ℕ) (bs : List ℤ) → ps ≡ d.postings → own ≡ own_of s.names (blank_account es) → bs ≡ s.books.balances → Ok y ≡ unless (first_met (weighing_tests ps own bs es)) x → weighed_draft s lent d es ≡ unless (first_met (record_tests lent (s.rows + length es))) after
  weighing_passed x y ps own bs same_postings same_own same_balances is =
      ap (λ r. unless r after) (passed_before (weighing_tests d.postings (own_of s.names (blank_account es)) s.books.balances es) (record_tests lent (s.rows + length es)) y x (cc))

  pub room_last : (n : ℕ) (r : Result (Unit {0}) Refusal) → n ≡ s.rows + length es → r ≡ room_for lent n → weighed_draft s lent d es ≡ unless (first_met (record_tests lent (s.rows + length es))) after → map_ok (λ _. after) r ≡ weighed_draft s lent d es
  room_last n (Ok x) many is passed = grind (arith, common_steps)
  room_last n (Err e) many is passed = grind (arith, common_steps)
