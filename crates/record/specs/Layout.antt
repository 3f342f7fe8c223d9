-- The booking record byte by byte: a header of 24 bytes, then rows of 36 bytes. Assumes nothing.
use Rattle.std.specs.Prelude.{ℕ, ◌+◌, ◌*◌, ◌/◌, ◌%◌, cond, List, [], ◌∷◌, ◌++◌, length, take, drop, ℤ, Ok, Err, Result, nat_le}
use Rattle.std.proofs.Common.{of_z}
use Rattle.std.specs.Int.{w32}
use Rattle.std.specs.List.{flat_map}
use Rattle.refusal.specs.declared.Refusal.{Refusal}
use Rattle.refusal.specs.declared.Refusal.TheVariants.{RecordTooShort, TooManyRows}
use Rattle.values.specs.Flags.{flag_number}
use Rattle.record.specs.declared.header.Header.{Header}
use Rattle.record.specs.declared.rows.LotFields.{LotFields}
use Rattle.record.specs.declared.rows.RowKind.{RowKind}
use Rattle.record.specs.declared.rows.RowKind.TheVariants.{Plain, Purchase, Draw, FilledBlank}
use Rattle.record.specs.declared.rows.Row.{Row}

abbrev pub header_length : ℕ
header_length = 24

abbrev pub row_length : ℕ
row_length = 36

abbrev pub most_rows : ℕ
most_rows = 60000

-- the offset of the first free byte behind so many rows
abbrev pub first_free : ℕ → ℕ
first_free rows = header_length + row_length * rows

-- a number in one, two or four bytes, lowest byte first
abbrev pub le1 : ℕ → List ℕ
le1 n = n ∷ []

abbrev pub le2 : ℕ → List ℕ
le2 n = n % 256 ∷ n / 256 % 256 ∷ []

abbrev pub le4 : ℕ → List ℕ
le4 n = n % 256 ∷ n / 256 % 256 ∷ n / 65536 % 256 ∷ n / 16777216 % 256 ∷ []

-- a number with its sign as two's complement in four bytes
abbrev pub signed_le4 : ℤ → List ℕ
signed_le4 z = le4 (of_z w32 z)

abbrev pub kind_number : RowKind → ℕ
kind_number Plain = 1
kind_number (Purchase _) = 2
kind_number (Draw _) = 3
kind_number FilledBlank = 4

-- a row without a lot has zeros for it
abbrev pub no_lot : LotFields
no_lot = record { cost = 0; acquired = 0; serial = 0; currency = 0 }

abbrev pub lot_of : RowKind → LotFields
lot_of Plain = no_lot
lot_of (Purchase lot) = lot
lot_of (Draw lot) = lot
lot_of FilledBlank = no_lot

abbrev pub concat : List (List ℕ) → List ℕ
concat parts = flat_map (λ part. part) parts

-- a row's fields in their order
abbrev pub row_bytes : Row → List ℕ
row_bytes r =
    concat
    (le4 r.line
    ∷ le4 r.transaction
    ∷ le4 r.date
    ∷ le2 r.account
    ∷ le1 r.commodity
    ∷ le1 (kind_number r.kind)
    ∷ signed_le4 r.units
    ∷ le4 (lot_of r.kind).cost
    ∷ le4 (lot_of r.kind).acquired
    ∷ le4 (lot_of r.kind).serial
    ∷ le1 (lot_of r.kind).currency
    ∷ le1 (flag_number r.flag)
    ∷ le2 0
    ∷ [])

abbrev pub rows_bytes : List Row → List ℕ
rows_bytes rows = flat_map row_bytes rows

-- the header of a ledger that has written so many rows
abbrev pub header_bytes : ℕ → Header → List ℕ
header_bytes rows h =
    concat
    (le2 1
    ∷ le2 h.policy
    ∷ le4 h.transactions
    ∷ le4 rows
    ∷ le4 header_length
    ∷ le4 (first_free rows)
    ∷ le4 h.next
    ∷ [])

-- bytes with others written over them from an offset on
abbrev pub write_at : List ℕ → ℕ → List ℕ → List ℕ
write_at bytes at new = take at bytes ++ (new ++ drop (at + length new) bytes)

-- a record of this length is refused, or has room for the header and so many rows
abbrev pub room_for : ℕ → ℕ → Result (Unit {0}) Refusal
room_for size rows = cond (nat_le (first_free rows) size) (cond (nat_le rows most_rows) (Ok tt) (Err TooManyRows)) (Err RecordTooShort)

-- the record after the header of a ledger with so many rows is written
unfoldable pub header_after : ℕ → Header → List ℕ → List ℕ
header_after rows h book = write_at book 0 (header_bytes rows h)

-- the record after rows are written behind those that were written before, and then the header
unfoldable pub record_after : ℕ → List Row → Header → List ℕ → List ℕ
record_after written rows h book = header_after (written + length rows) h (write_at book (first_free written) (rows_bytes rows))

-- what an answer leaves: accepted the one, refused the other
abbrev pub if_ok : {A T E : Type 0} → Result T E → A → A → A
if_ok (Ok _) changed kept = changed
if_ok (Err _) changed kept = kept
