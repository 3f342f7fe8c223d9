-- What a call leaves in the record that it is lent (docs/RECORD.md). All bytes that a call does not write stay.
use Rattle.std.specs.Prelude.{ℕ, List, [], ◌∷◌, Some, None, Option}
use Rattle.refusal.specs.declared.Fault.{Fault}
use Rattle.lots.specs.Orders.{Order}
use Rattle.record.specs.declared.header.Header.{Header}
use Rattle.record.specs.declared.rows.Row.{Row}
use Rattle.record.specs.Layout.{header_after, record_after}
use Rattle.booking.specs.declared.entry.Transaction.{Transaction}
use Rattle.booking.specs.Rows.{rows_of}
use Rattle.booking.specs.declared.draft.Draft.{Draft}
use Rattle.books.specs.States.{State, next_number}
use Rattle.books.specs.Calls.{Call, declaring, opening, asserting, closing, beginning, posting, settling, tearing, writing_header}
use Rattle.books.specs.Refusals.{refusal}
use Rattle.books.specs.Changes.{settled_entries, after_settling}
use Rattle.books.specs.Steps.{step}

-- the header of a ledger, for the policy's code
abbrev pub header_of : Order → State → Header
header_of o s = record { policy = o.code; transactions = s.transactions; next = s.books.table.next }

-- a draft as the transaction of a number
abbrev pub transaction_of : ℕ → Draft → Transaction
transaction_of number d = record { number = number; date = d.date; flag = d.flag }

-- the rows that a draft becomes when it is settled
abbrev pub draft_rows : Order → State → Draft → List Row
draft_rows o s d = rows_of (transaction_of (next_number s) d) (settled_entries o s.books.table d)

abbrev pub record_after_settling : Order → State → Option Draft → List ℕ → List ℕ
record_after_settling o s None book = book
record_after_settling o s (Some d) book = record_after s.rows (draft_rows o s d) (header_of o (after_settling o s (Some d))) book

-- what an accepted call leaves in the record
abbrev pub record_change : Order → State → Call → List ℕ → List ℕ
record_change o s (declaring source date name) book = book
record_change o s (opening source date name own) book = book
record_change o s (asserting source date account amount commodity) book = book
record_change o s (closing source date account) book = book
record_change o s (beginning source date flag) book = book
record_change o s (posting slip source account amount) book = book
record_change o s (settling slip lent) book = record_after_settling o s s.draft book
record_change o s (tearing slip) book = book
record_change o s (writing_header lent) book = header_after s.rows (header_of o s) book

-- a refused call writes no byte
abbrev pub record_answered : Order → State → Call → List ℕ → Option Fault → List ℕ
record_answered o s c book None = record_change o s c book
record_answered o s c book (Some fault) = book

abbrev pub record_after_call : Order → State → Call → List ℕ → List ℕ
record_after_call o s c book = record_answered o s c book (refusal o s c)

-- one record, handed from call to call and not touched between
abbrev pub record_after_calls : Order → State → List Call → List ℕ → List ℕ
record_after_calls o s [] book = book
record_after_calls o s (c ∷ cs) book = record_after_calls o (step o s c).1 cs (record_after_call o s c book)
