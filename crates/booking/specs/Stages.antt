-- What booking answers, posting by posting: the first refusal that is met, or the lots and the entries after it.
use Rattle.std.specs.Prelude.{◌≡◌, ℕ, ◌+◌, ◌≤◌, true, List, [], ◌∷◌, ◌++◌, length, Result}
use Rattle.std.specs.List.{list_all}
use Rattle.refusal.specs.declared.Refusal.{Refusal}
use Rattle.refusal.specs.declared.Fault.{Fault}
use Rattle.refusal.specs.Refusing.{unless}
use Rattle.lots.specs.declared.rows.Key.{Key}
use Rattle.lots.specs.Orders.{Order}
use Rattle.matching.specs.declared.wanted.Wanted.{Wanted}
use Rattle.matching.specs.Drawing.{draws_of}
use Rattle.stock.specs.Tables.{Table, last_serial, serial_for, purchase_refusal, table_after_purchase, reduction_refusal, table_after_reduction}
use Rattle.stock.specs.Kept.{WellKept}
use Rattle.booking.specs.Limits.{most_entries}
use Rattle.booking.specs.Ranges.{entry_in_range}
use Rattle.booking.specs.declared.posting.Posting.{Posting}
use Rattle.booking.specs.declared.posting.PostingKind.{PostingKind}
use Rattle.booking.specs.declared.entry.Entry.{Entry}
use Rattle.booking.specs.declared.entry.EntryKind.TheVariants.{Bought}
use Rattle.booking.specs.Postings.{entry, draw_entries, table_after_kind, entries_of_kind, kind_refusal, table_after_posting, entries_of_posting, posting_refusal}
use Rattle.booking.specs.Booking.{at_line, table_after, entries_of, first_fault}

abbrev pub book_purchase : ℕ → Key → ℕ → Table × List Entry → Result (Table × List Entry) Refusal
book_purchase line k n b =
    unless (purchase_refusal k n b.0)
    (table_after_purchase k n b.0, b.1 ++ (entry line (Bought k n (serial_for k b.0.next b.0.lots)) ∷ []))

abbrev pub book_reduction : Order → ℕ → Wanted → ℕ → Table × List Entry → Result (Table × List Entry) Refusal
book_reduction o line w u b =
    unless (reduction_refusal o w u b.0)
    (table_after_reduction o w u b.0, b.1 ++ draw_entries line (draws_of o w u b.0.lots))

abbrev pub book_kind : Order → ℕ → ℕ → ℕ → PostingKind → Table × List Entry → Result (Table × List Entry) Refusal
book_kind o day line a kind b = unless (kind_refusal o day a b.0 kind) (table_after_kind o day a b.0 kind, b.1 ++ entries_of_kind o day line a b.0 kind)

abbrev pub book_posting : Order → ℕ → Posting → Table × List Entry → Result (Table × List Entry) Fault
book_posting o day p b = unless (at_line p.line (posting_refusal o day b.0 p)) (table_after_posting o day b.0 p, b.1 ++ entries_of_posting o day b.0 p)

-- a whole draft, behind entries that are there
abbrev pub book_postings : Order → ℕ → Table × List Entry → List Posting → Result (Table × List Entry) Fault
book_postings o day b ps = unless (first_fault o day b.0 ps) (table_after o day b.0 ps, b.1 ++ entries_of o day b.0 ps)

-- a whole draft
abbrev pub book_draft : Order → ℕ → Table → List Posting → Result (Table × List Entry) Fault
book_draft o day t ps = unless (first_fault o day t ps) (table_after o day t ps, entries_of o day t ps)

-- room for the entries of one posting more, and for the serial of a lot that it opens
abbrev pub HasRoom : Table × List Entry → Type 0
HasRoom b = length b.1 + length b.0.lots + 2 ≤ most_entries

abbrev pub HasSerials : Table × List Entry → Type 0
HasSerials b = b.0.next + 1 ≤ last_serial

-- the open lots are well kept, and each entry is within its range
abbrev pub IsKept : Table × List Entry → Type 0
IsKept b = WellKept b.0 × (list_all entry_in_range b.1 ≡ true)

-- With a posting, entries and open lots together grow by at most 2, and each new serial comes with an entry.
pub record Grows (before after : Table × List Entry) : Type 0 where
  pub room : length after.1 + length after.0.lots ≤ length before.1 + length before.0.lots + 2
  pub serials : after.0.next + length before.1 ≤ before.0.next + length after.1
