-- A whole draft: its postings in order, each upon the lots that the one before left.
use Rattle.std.specs.Prelude.{ℕ, List, [], ◌∷◌, ◌++◌, Some, None, Option}
use Rattle.std.specs.Option.{option_or}
use Rattle.refusal.specs.declared.Refusal.{Refusal}
use Rattle.refusal.specs.declared.Fault.{Fault}
use Rattle.refusal.specs.Faults.{fault_at}
use Rattle.lots.specs.Orders.{Order}
use Rattle.stock.specs.Tables.{Table}
use Rattle.booking.specs.declared.posting.Posting.{Posting}
use Rattle.booking.specs.declared.entry.Entry.{Entry}
use Rattle.booking.specs.Postings.{table_after_posting, entries_of_posting, posting_refusal}

-- the lots that a draft leaves
abbrev pub table_after : Order → ℕ → Table → List Posting → Table
table_after o day t [] = t
table_after o day t (p ∷ ps) = table_after o day (table_after_posting o day t p) ps

-- its entries, in order of posting and drawing; a blank is not filled yet
abbrev pub entries_of : Order → ℕ → Table → List Posting → List Entry
entries_of o day t [] = []
entries_of o day t (p ∷ ps) = entries_of_posting o day t p ++ entries_of o day (table_after_posting o day t p) ps

-- a refusal bears a line
abbrev pub at_line : ℕ → Option Refusal → Option Fault
at_line line None = None
at_line line (Some refusal) = Some (fault_at line refusal)

-- the first posting that meets one of 21 to 24 decides, and its line is reported
abbrev pub first_fault : Order → ℕ → Table → List Posting → Option Fault
first_fault o day t [] = None
first_fault o day t (p ∷ ps) = option_or (at_line p.line (posting_refusal o day t p)) (first_fault o day (table_after_posting o day t p) ps)
