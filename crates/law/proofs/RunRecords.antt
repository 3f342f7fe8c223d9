-- What the record holds after a run.
use Rattle.std.proofs.Common.{rules, tests, ◌≡◌, ℕ, ◌+◌, ◌≤◌, Bool, true, false, cond, not, ◌&&◌, ◌||◌, eqb, leb, List, [], ◌∷◌, ◌++◌, length, take, drop, is_some, Some, None, Option, sym, refl, ap, ◌∙◌, subst, arith}
use Rattle.std.proofs.lemmas.Bool.Decides.{nat_tests}
use Rattle.std.specs.List.{AllByRecursion}
use Rattle.std.proofs.lemmas.List.{length-append, length-map, length-take-le}
use Rattle.std.proofs.lemmas.Bool.{not-false, leb-true, both_ways}
use Rattle.refusal.specs.declared.Fault.{Fault}
use Rattle.refusal.specs.declared.Refusal.TheVariants.{NoSuchDraft, RecordTooShort}
use Rattle.lots.specs.declared.rows.Key.{Key}
use Rattle.lots.specs.Orders.{Order, Keeps}
use Rattle.record.specs.declared.rows.Row.{Row}
use Rattle.record.specs.Layout.{header_length, first_free, header_bytes, rows_bytes}
use Rattle.refusal.specs.Faults.{fault_at}
use Rattle.booking.specs.Rows.{row_of, rows_of}
use Rattle.booking.specs.declared.draft.Draft.{Draft}
use Rattle.books.specs.States.{State, empty_ledger}
use Rattle.books.specs.Calls.{Call, settling, writing_header}
use Rattle.books.specs.Conditions.{no_such_draft, record_too_short}
use Rattle.books.specs.Refusals.{first_fault_met, if_given, draft_tests, refusal}
use Rattle.books.specs.Changes.{settled_entries, after_settling}
use Rattle.books.specs.Steps.{answered, step, outcomes}
use Rattle.books.specs.Recording.{header_of, transaction_of, draft_rows, record_after_settling, record_change, record_answered, record_after_call, record_after_calls}
use Rattle.law.specs.Histories.{Settlement, History, accepted, with_settlement, after_accepted, after_call, history_after, all_entries, all_rows}
use Rattle.books.specs.Lending.{LentWithin}
use Rattle.law.specs.Records.{writes, any_wrote, recorded, RecordStands}
use Rattle.law.proofs.Sums.{joined_push}
use Rattle.std.proofs.Math.Bool.{or_assoc}
use Rattle.books.proofs.Lending.{room_for_draft}
use Rattle.books.proofs.Tests.{unrefused}
use Rattle.law.proofs.Runs.{Good, history, reply_accepted, answered_kept, empty_good}
use Rattle.law.proofs.Bytes.{headed_over, recorded_behind, untouched}

-- as many rows as entries
rows_count : (xs : List Settlement) → length (all_rows xs) ≡ length (all_entries xs)
rows_count [] = refl
rows_count (x ∷ xs) =
    let ih = rows_count xs in
    let a = length-append (rows_of x.transaction x.entries) (all_rows xs) in
    let b = length-append x.entries (all_entries xs) in
    let c = length-map x.entries (row_of x.transaction) in
    omega arith

module _ (o : Order) (start : List ℕ) where
  -- the record between calls: a header's place, the rows, and the bytes as they were; the header is that of the history once a call wrote
  record Holds (wrote : Bool) (h : History) (book : List ℕ) : Type 0 where
    is : book ≡ cond wrote (recorded o h start) start
    early : wrote ≡ false → h.settlements ≡ []

  -- once there is room for a header, what was written has one
  record Framed (h : History) (book : List ℕ) : Type 0 where
    old : List ℕ
    size : length old ≡ header_length
    framed : book ≡ old ++ (rows_bytes (all_rows h.settlements) ++ drop (first_free (length (all_entries h.settlements))) start)

  framed_by : (wrote : Bool) (h : History) (book : List ℕ) → header_length ≤ length start → Holds wrote h book → Framed h book
  framed_by true h book room holds = search (rules, tests)
  framed_by false h book room holds = record {
    old = take header_length start;
    size = length-take-le header_length start room;
    framed = holds.is ∙ untouched start ∙ ap (λ (xs : List Settlement). take header_length start ++ (rows_bytes (all_rows xs) ++ drop (first_free (length (all_entries xs))) start)) (sym (holds.early refl));
  }

  settled_holds : (wrote : Bool) (s : State) (opened : List Key) (xs : List Settlement) (lent : ℕ) (d : Draft) (book : List ℕ)
      → first_fault_met (draft_tests o s lent d) ≡ None → lent ≤ length start → Good s opened xs → Holds wrote (history s opened xs) book
      → Holds true (with_settlement o (history s opened xs) (Some d)) (record_after_settling o s (Some d) book)
  settled_holds wrote s opened xs lent d book e l g holds =
      let room = room_for_draft o s lent d e in
      let fr = framed_by wrote (history s opened xs) book (omega arith) holds in
      let counted = g.rows in
      let numbered = g.transactions in
      let es = settled_entries o s.books.table d in
      let new = draft_rows o s d in
      let x : Settlement = record { transaction = transaction_of (length xs + 1) d; entries = es } in
      let all_e = joined_push (λ y. y.entries) xs x in
      let all_r = joined_push (λ y. rows_of y.transaction y.entries) xs x in
      let rows_size : length (all_rows xs) ≡ s.rows = rows_count xs ∙ sym counted in
      let new_size : length new ≡ length es = length-map es (row_of (transaction_of (s.transactions + 1) d)) in
      let total : s.rows + length new ≡ length (all_entries (xs ++ (x ∷ []))) = ap (λ (n : ℕ). s.rows + n) new_size ∙ sym (ap length all_e ∙ length-append (all_entries xs) es ∙ ap (λ (n : ℕ). n + length es) (sym counted)) in
      let same_new : new ≡ rows_of (transaction_of (length xs + 1) d) es = ap (λ (n : ℕ). rows_of (transaction_of (n + 1) d) es) numbered in
      let head = header_of o (after_settling o s (Some d)) in
      record {
        is = ap (record_after_settling o s (Some d)) (fr.framed ∙ ap (λ (n : ℕ). fr.old ++ (rows_bytes (all_rows xs) ++ drop (first_free n) start)) (sym counted))
            ∙ recorded_behind fr.old start (all_rows xs) new s.rows head fr.size rows_size
            ∙ ap (λ (n : ℕ). header_bytes n head ++ (rows_bytes (all_rows xs ++ new) ++ drop (first_free n) start)) total
            ∙ ap (λ (rs : List Row). header_bytes (length (all_entries (xs ++ (x ∷ [])))) head ++ (rows_bytes rs ++ drop (first_free (length (all_entries (xs ++ (x ∷ []))))) start)) (ap (λ (rs : List Row). all_rows xs ++ rs) same_new ∙ sym all_r)
            ∙ ap (λ (n : ℕ). header_bytes (length (all_entries (xs ++ (x ∷ [])))) (record { policy = o.code; transactions = n; next = head.next }) ++ (rows_bytes (all_rows (xs ++ (x ∷ []))) ++ drop (first_free (length (all_entries (xs ++ (x ∷ []))))) start)) (ap (λ (n : ℕ). n + 1) numbered ∙ sym (length-append xs (x ∷ [])));
        early = λ f. absurd (both_ways true f refl);
      }

  headed_holds : (wrote : Bool) (s : State) (opened : List Key) (xs : List Settlement) (lent : ℕ) (book : List ℕ) → record_too_short lent s.rows ≡ false → lent ≤ length start → Good s opened xs → Holds wrote (history s opened xs) book
      → Holds true (history s opened xs) (record_change o s (writing_header lent) book)
  headed_holds wrote s opened xs lent book e l g holds =
      let room = leb-true (first_free s.rows) lent (not-false (leb (first_free s.rows) lent) e) in
      let fr = framed_by wrote (history s opened xs) book (omega arith) holds in
      let rest = rows_bytes (all_rows xs) ++ drop (first_free (length (all_entries xs))) start in
      record {
        is = ap (record_change o s (writing_header lent)) fr.framed
            ∙ headed_over fr.old rest s.rows (header_of o s) fr.size
            ∙ ap (λ (n : ℕ). header_bytes n (header_of o s) ++ rest) g.rows
            ∙ ap (λ (n : ℕ). header_bytes (length (all_entries xs)) (record { policy = o.code; transactions = n; next = s.books.table.next }) ++ rest) g.transactions;
        early = λ f. absurd (both_ways true f refl);
      }

  -- a settling that nothing is drafted for writes nothing, and is refused
  settling_holds : (wrote : Bool) (s : State) (opened : List Key) (xs : List Settlement) (slip lent : ℕ) (book : List ℕ) → (d : Option Draft) → not (is_some d && eqb slip (s.transactions + 1)) ≡ false → first_fault_met (if_given (draft_tests o s lent) d) ≡ None → lent ≤ length start → Good s opened xs → Holds wrote (history s opened xs) book
      → Holds true (with_settlement o (history s opened xs) d) (record_after_settling o s d book)
  settling_holds wrote s opened xs slip lent book None there e l g holds = absurd (both_ways true there refl)
  settling_holds wrote s opened xs slip lent book (Some d) there e l g holds = settled_holds wrote s opened xs lent d book e l g holds

  -- names and drafts concern no record
  same_holds : (wrote : Bool) (h k : History) (book : List ℕ) → k.settlements ≡ h.settlements → k.table ≡ h.table → Holds wrote h book → Holds (wrote || false) k book
  same_holds wrote h k book same table holds = grind (arith, nat_tests)

  wrote_now : (wrote : Bool) (h : History) (book : List ℕ) → Holds true h book → Holds (wrote || true) h book
  wrote_now true h book holds = holds
  wrote_now false h book holds = holds

  accepted_holds : (c : Call) (wrote : Bool) (s : State) (opened : List Key) (xs : List Settlement) (book : List ℕ) → refusal o s c ≡ None → LentWithin (length start) c → Good s opened xs → Holds wrote (history s opened xs) book
      → Holds (wrote || writes c) (after_accepted o (history s opened xs) c) (record_change o s c book)
  accepted_holds (settling slip lent) wrote s opened xs book e l g holds =
      let parts = unrefused (no_such_draft s slip) (fault_at 0 NoSuchDraft) (first_fault_met (if_given (draft_tests o s lent) s.draft)) e in
      wrote_now wrote (after_accepted o (history s opened xs) (settling slip lent)) (record_change o s (settling slip lent) book) (settling_holds wrote s opened xs slip lent book s.draft parts.0 parts.1 l g holds)
  accepted_holds (writing_header lent) wrote s opened xs book e l g holds =
      wrote_now wrote (history s opened xs) (record_change o s (writing_header lent) book) (headed_holds wrote s opened xs lent book (unrefused (record_too_short lent s.rows) (fault_at 0 RecordTooShort) None e).0 l g holds)
  accepted_holds c wrote s opened xs book e l g holds = grind (arith, nat_tests)

  step_holds : (c : Call) (wrote : Bool) (s : State) (opened : List Key) (xs : List Settlement) (book : List ℕ) (r : Option Fault) → refusal o s c ≡ r → LentWithin (length start) c → Good s opened xs → Holds wrote (history s opened xs) book
      → Holds (wrote || (accepted (answered o s c r).0 && writes c)) (after_call o (history s opened xs) c (answered o s c r).0) (record_answered o s c book r)
  step_holds c wrote s opened xs book None e l g holds =
      subst (λ (b : Bool). Holds (wrote || (b && writes c)) (cond b (after_accepted o (history s opened xs) c) (history s opened xs)) (record_change o s c book)) (sym (reply_accepted s c)) (accepted_holds c wrote s opened xs book e l g holds)
  step_holds c wrote s opened xs book (Some f) e l g holds = same_holds wrote (history s opened xs) (history s opened xs) book refl refl holds

  run_holds : Keeps o → (calls : List Call) (wrote : Bool) (s : State) (opened : List Key) (xs : List Settlement) (book : List ℕ) → AllByRecursion (LentWithin (length start)) calls → Good s opened xs → Holds wrote (history s opened xs) book
      → record_after_calls o s calls book ≡ cond (wrote || any_wrote calls (outcomes o s calls)) (recorded o (history_after o (history s opened xs) calls (outcomes o s calls)) start) start
  run_holds keeps [] wrote s opened xs book l g holds = (same_holds wrote (history s opened xs) (history s opened xs) book refl refl holds).is
  run_holds keeps (c ∷ cs) wrote s opened xs book l g holds =
      let x = (step o s c).0 in
      let s1 = (step o s c).1 in
      let h1 = after_call o (history s opened xs) c x in
      let now_wrote = wrote || (accepted x && writes c) in
      let kept = answered_kept o keeps s opened xs c (refusal o s c) refl g in
      let next = step_holds c wrote s opened xs book (refusal o s c) refl l.0 g holds in
      let far = run_holds keeps cs now_wrote s1 h1.opened h1.settlements (record_after_call o s c book) l.1 kept.0 (subst (λ (h : History). Holds now_wrote h (record_after_call o s c book)) (sym kept.1) next) in
      far
      ∙ ap (λ (h : History). cond (now_wrote || any_wrote cs (outcomes o s1 cs)) (recorded o (history_after o h cs (outcomes o s1 cs)) start) start) kept.1
      ∙ ap (λ (b : Bool). cond b (recorded o (history_after o h1 cs (outcomes o s1 cs)) start) start) (or_assoc wrote (accepted x && writes c) (any_wrote cs (outcomes o s1 cs)))

pub record_stands : RecordStands
record_stands o keeps calls book lent = run_holds o book keeps calls false empty_ledger [] [] book lent empty_good (record { is = refl; early = λ _. refl })
