-- What a posting does in a transaction of a day, upon the lots before it. All of it is total and knows no refusals;
-- which of 21 to 24 a posting meets stands beside it.
use Rattle.std.specs.Prelude.{ℕ, Bool, List, [], ◌∷◌, map, Some, None, Option}
use Rattle.refusal.specs.declared.Refusal.{Refusal}
use Rattle.refusal.specs.Refusing.{first_met}
use Rattle.lots.specs.declared.rows.Cost.{Cost}
use Rattle.lots.specs.declared.rows.Key.{Key}
use Rattle.lots.specs.Orders.{Order}
use Rattle.matching.specs.declared.wanted.Wanted.{Wanted}
use Rattle.matching.specs.declared.wanted.Draw.{Draw}
use Rattle.matching.specs.Drawing.{draws_of}
use Rattle.stock.specs.Tables.{Table, serial_for, purchase_tests, table_after_purchase, reduction_tests, table_after_reduction}
use Rattle.booking.specs.declared.posting.Posting.{Posting}
use Rattle.booking.specs.declared.posting.PostingKind.{PostingKind}
use Rattle.booking.specs.declared.posting.PostingKind.TheVariants.{Blank, Plain, Purchase, Reduction}
use Rattle.booking.specs.declared.entry.Entry.{Entry}
use Rattle.booking.specs.declared.entry.EntryKind.{EntryKind}
use Rattle.booking.specs.declared.entry.EntryKind.TheVariants.{PlainAmount, Unfilled, Bought, Drew}

-- the lot date of a purchase: that of the braces, else the transaction's
abbrev pub lot_date : ℕ → Option ℕ → ℕ
lot_date day None = day
lot_date day (Some date) = date

-- the key that a purchase brings its units to
abbrev pub purchase_key : ℕ → ℕ → ℕ → Cost → Option ℕ → Key
purchase_key day account commodity cost date = record { account = account; commodity = commodity; cost = cost; date = lot_date day date }

-- the lots that a reduction asks for
abbrev pub wanted_lots : ℕ → ℕ → Option Cost → Option ℕ → Wanted
wanted_lots account commodity cost date = record { account = account; commodity = commodity; cost = cost; date = date }

-- the lots that a posting leaves
abbrev pub table_after_kind : Order → ℕ → ℕ → Table → PostingKind → Table
table_after_kind o day a t Blank = t
table_after_kind o day a t (Plain amount commodity) = t
table_after_kind o day a t (Purchase units commodity cost date) = table_after_purchase (purchase_key day a commodity cost date) units t
table_after_kind o day a t (Reduction units commodity cost date) = table_after_reduction o (wanted_lots a commodity cost date) units t

abbrev pub table_after_posting : Order → ℕ → Table → Posting → Table
table_after_posting o day t p = table_after_kind o day p.account t p.kind

-- the entries that it gives
abbrev pub entry : ℕ → EntryKind → Entry
entry line kind = record { line = line; kind = kind }

abbrev pub draw_entries : ℕ → List Draw → List Entry
draw_entries line ds = map (λ d. entry line (Drew d)) ds

abbrev pub entries_of_kind : Order → ℕ → ℕ → ℕ → Table → PostingKind → List Entry
entries_of_kind o day line a t Blank = entry line (Unfilled a) ∷ []
entries_of_kind o day line a t (Plain amount commodity) = entry line (PlainAmount a amount commodity) ∷ []
entries_of_kind o day line a t (Purchase units commodity cost date) =
    entry line (Bought (purchase_key day a commodity cost date) units (serial_for (purchase_key day a commodity cost date) t.next t.lots)) ∷ []
entries_of_kind o day line a t (Reduction units commodity cost date) = draw_entries line (draws_of o (wanted_lots a commodity cost date) units t.lots)

abbrev pub entries_of_posting : Order → ℕ → Table → Posting → List Entry
entries_of_posting o day t p = entries_of_kind o day p.line p.account t p.kind

-- which of 21 to 24 it can meet upon these lots
abbrev pub lots_tests : Order → ℕ → ℕ → Table → PostingKind → List (Refusal × Bool)
lots_tests o day a t Blank = []
lots_tests o day a t (Plain amount commodity) = []
lots_tests o day a t (Purchase units commodity cost date) = purchase_tests (purchase_key day a commodity cost date) units t
lots_tests o day a t (Reduction units commodity cost date) = reduction_tests o (wanted_lots a commodity cost date) units t

-- which it meets, if any
abbrev pub kind_refusal : Order → ℕ → ℕ → Table → PostingKind → Option Refusal
kind_refusal o day a t kind = first_met (lots_tests o day a t kind)

abbrev pub posting_refusal : Order → ℕ → Table → Posting → Option Refusal
posting_refusal o day t p = kind_refusal o day p.account t p.kind
