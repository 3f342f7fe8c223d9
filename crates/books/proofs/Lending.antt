-- A call that is lent the front of a record leaves the record as if it were lent all of it: it writes only where there is room.
use Rattle.std.proofs.Common.{◌≡◌, ℕ, ◌+◌, ◌≤◌, min, false, leb, List, ◌++◌, length, take, drop, Some, None, Option, refl, sym, ap, ◌∙◌, arith}
use Rattle.std.proofs.lemmas.Bool.{not-false, leb-true}
use Rattle.std.proofs.lemmas.List.{append_assoc, length-append, length-map, length-take, length-take-le, length-drop, take-append-drop, take-append-le, drop-append-le}
use Rattle.record.specs.declared.header.Header.{Header}
use Rattle.record.specs.declared.rows.Row.{Row}
use Rattle.record.specs.Layout.{header_length, first_free, rows_bytes, header_bytes, write_at, header_after, record_after}
use Rattle.record.proofs.Written.{rows_bytes_length}
use Rattle.refusal.specs.Faults.{fault_at}
use Rattle.refusal.specs.declared.Fault.{Fault}
use Rattle.refusal.specs.declared.Refusal.TheVariants.{NoSuchDraft, RecordTooShort}
use Rattle.refusal.specs.Refusing.{first_met}
use Rattle.lots.specs.Orders.{Order}
use Rattle.booking.specs.declared.draft.Draft.{Draft}
use Rattle.booking.specs.Booking.{at_line, first_fault}
use Rattle.booking.specs.Rows.{row_of}
use Rattle.booking.proofs.Filling.{length_complete}
use Rattle.books.specs.States.{State}
use Rattle.books.specs.Calls.{Call, settling, writing_header}
use Rattle.books.specs.Lending.{LentWithin}
use Rattle.books.specs.Conditions.{no_such_draft, record_too_short}
use Rattle.books.specs.Refusals.{first_fault_met, if_given, draft_entries, whole_draft_tests, draft_tests, refusal}
use Rattle.books.specs.Changes.{settled_entries, after_settling, with_draft}
use Rattle.books.specs.Recording.{header_of, transaction_of, draft_rows, record_after_settling, record_change, record_answered, record_after_call}
use Rattle.books.proofs.Nested.{draft_first}
use Rattle.books.proofs.Tests.{none_met, no_line, both_none, unrefused}

write_in_front : (front rest new : List ℕ) (at : ℕ) → at + length new ≤ length front → write_at (front ++ rest) at new ≡ write_at front at new ++ rest
write_in_front front rest new at fits = let before : at ≤ length front = omega arith in simp (take-append-le, drop-append-le, append_assoc)

write_keeps_length : (book new : List ℕ) (at : ℕ) → at + length new ≤ length book → length (write_at book at new) ≡ length book
write_keeps_length book new at fits = simp (length-append, length-take, length-drop) (omega arith)

pub header_in_front : (rows : ℕ) (h : Header) (front rest : List ℕ) → header_length ≤ length front → header_after rows h (front ++ rest) ≡ header_after rows h front ++ rest
unfolding header_after
header_in_front rows h front rest fits = write_in_front front rest (header_bytes rows h) 0 (omega arith)

pub rows_in_front : (written : ℕ) (rows : List Row) (h : Header) (front rest : List ℕ) → first_free (written + length rows) ≤ length front → record_after written rows h (front ++ rest) ≡ record_after written rows h front ++ rest
unfolding record_after
rows_in_front written rows h front rest fits =
    let size = rows_bytes_length rows in
    let room : first_free written + length (rows_bytes rows) ≤ length front = omega arith in
    let kept = write_keeps_length front (rows_bytes rows) (first_free written) room in
    ap (header_after (written + length rows) h) (write_in_front front rest (rows_bytes rows) (first_free written) room)
    ∙ header_in_front (written + length rows) h (write_at front (first_free written) (rows_bytes rows)) rest (omega arith)

-- a settling that is accepted has room for the header and all rows
pub room_for_draft : (o : Order) (s : State) (lent : ℕ) (d : Draft) → first_fault_met (draft_tests o s lent d) ≡ None → first_free (s.rows + length (settled_entries o s.books.table d)) ≤ lent
room_for_draft o s lent d e =
    let booked = draft_entries o s d in
    let whole = whole_draft_tests s lent d booked in
    let parts = both_none (first_fault o d.date s.books.table d.postings) (at_line d.line (first_met whole)) (sym (draft_first o s lent d) ∙ e) in
    let unmet = none_met whole (no_line d.line (first_met whole) parts.1) in
    let room = leb-true (first_free (s.rows + length booked)) lent (not-false (leb (first_free (s.rows + length booked)) lent) unmet.1.1.1.0) in
    let same = length_complete booked in
    omega arith

module _ (o : Order) (s : State) (front rest : List ℕ) where
  draft_in_front : (slip lent : ℕ) → lent ≤ length front → (x : Option Draft) → no_such_draft (with_draft s x) slip ≡ false → first_fault_met (if_given (draft_tests o s lent) x) ≡ None
      → record_after_settling o s x (front ++ rest) ≡ record_after_settling o s x front ++ rest
  draft_in_front slip lent l None there e = refl
  draft_in_front slip lent l (Some d) there e =
      let room = room_for_draft o s lent d e in
      let many = length-map (settled_entries o s.books.table d) (row_of (transaction_of (s.transactions + 1) d)) in
      rows_in_front s.rows (draft_rows o s d) (header_of o (after_settling o s (Some d))) front rest (omega arith)

  change_in_front : (c : Call) → LentWithin (length front) c → refusal o s c ≡ None → record_change o s c (front ++ rest) ≡ record_change o s c front ++ rest
  change_in_front (settling slip lent) l e =
      let parts = unrefused (no_such_draft s slip) (fault_at 0 NoSuchDraft) (first_fault_met (if_given (draft_tests o s lent) s.draft)) e in
      draft_in_front slip lent l s.draft parts.0 parts.1
  change_in_front (writing_header lent) l e =
      let room = leb-true (first_free s.rows) lent (not-false (leb (first_free s.rows) lent) (unrefused (record_too_short lent s.rows) (fault_at 0 RecordTooShort) None e).0) in
      header_in_front s.rows (header_of o s) front rest (omega arith)
  change_in_front _ l e = refl

  -- the whole of it
  pub call_in_front : (c : Call) → LentWithin (length front) c → record_after_call o s c (front ++ rest) ≡ record_after_call o s c front ++ rest
  call_in_front c l = by (refusal o s c) refl
    where
      by : (r : Option Fault) → refusal o s c ≡ r → record_answered o s c (front ++ rest) r ≡ record_answered o s c front r ++ rest
      by None e = change_in_front c l e
      by (Some f) e = refl

-- a call that is lent so many bytes of a record, or all if it has fewer
pub lent_call : (o : Order) (s : State) (book : List ℕ) (lent : ℕ) (c : ℕ → Call) → ((k : ℕ) → LentWithin k (c k)) → {n : ℕ} {part : List ℕ} → n ≡ min lent (length book) → part ≡ record_after_call o s (c (length (take n book))) (take n book)
    → part ++ drop n book ≡ record_after_call o s (c (min lent (length book))) book
lent_call o s book lent c within {n} {part} fits is =
    let size : length (take n book) ≡ n = length-take-le n book (omega arith) in
    ap (λ (xs : List ℕ). xs ++ drop n book) is
    ∙ sym (call_in_front o s (take n book) (drop n book) (c (length (take n book))) (within (length (take n book))))
    ∙ ap (record_after_call o s (c (length (take n book)))) (take-append-drop n book)
    ∙ ap (λ (k : ℕ). record_after_call o s (c k) book) (size ∙ fits)
