-- What the record holds after a run, where one record is handed from call to call and not touched between.
use Rattle.std.specs.Prelude.{◌≡◌, ℕ, Bool, true, false, cond, ◌&&◌, ◌||◌, List, [], ◌∷◌, ◌++◌, length, drop}
use Rattle.std.specs.List.{AllByRecursion}
use Rattle.lots.specs.Orders.{Order, Keeps}
use Rattle.record.specs.declared.header.Header.{Header}
use Rattle.record.specs.Layout.{first_free, header_bytes, rows_bytes}
use Rattle.books.specs.declared.outcome.Outcome.{Outcome}
use Rattle.books.specs.States.{empty_ledger}
use Rattle.books.specs.Calls.{Call, declaring, opening, asserting, closing, beginning, posting, settling, tearing, writing_header}
use Rattle.books.specs.Steps.{outcomes}
use Rattle.books.specs.Lending.{LentWithin}
use Rattle.books.specs.Recording.{record_after_calls}
use Rattle.law.specs.Histories.{History, history_of, accepted, all_entries, all_rows}

-- settling and the header call write to the record
abbrev pub writes : Call → Bool
writes (declaring source date name) = false
writes (opening source date name own) = false
writes (asserting source date account amount commodity) = false
writes (closing source date account) = false
writes (beginning source date flag) = false
writes (posting slip source account amount) = false
writes (settling slip lent) = true
writes (tearing slip) = false
writes (writing_header lent) = true

-- some accepted call wrote to it
abbrev pub any_wrote : List Call → List Outcome → Bool
any_wrote [] outs = false
any_wrote (c ∷ cs) [] = false
any_wrote (c ∷ cs) (x ∷ outs) = (accepted x && writes c) || any_wrote cs outs

-- the header of a history, for the policy's code
abbrev pub header_of_history : Order → History → Header
header_of_history o h = record { policy = o.code; transactions = length h.settlements; next = h.table.next }

-- the header, then exactly the rows of all settled transactions in order, then the bytes as they were
abbrev pub recorded : Order → History → List ℕ → List ℕ
recorded o h book =
    header_bytes (length (all_entries h.settlements)) (header_of_history o h)
    ++ (rows_bytes (all_rows h.settlements) ++ drop (first_free (length (all_entries h.settlements))) book)

-- A record before and after calls with these outcomes: untouched until a call writes to it; from then on the record of the history
abbrev pub RecordHolds : Order → List Call → List Outcome → List ℕ → List ℕ → Type 0
RecordHolds o calls outs before after = after ≡ cond (any_wrote calls outs) (recorded o (history_of o calls outs) before) before

-- of every list of calls on a new ledger
abbrev pub RecordStandsUnder : Order → Type 0
RecordStandsUnder o =
    (calls : List Call) (book : List ℕ) → AllByRecursion (LentWithin (length book)) calls
    → RecordHolds o calls (outcomes o empty_ledger calls) book (record_after_calls o empty_ledger calls book)

-- It holds of every policy that keeps the laws.
abbrev pub RecordStands : Type 0
RecordStands = (o : Order) → Keeps o → RecordStandsUnder o
