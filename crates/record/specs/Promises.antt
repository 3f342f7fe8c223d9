-- What a host finds in the record after a call that was accepted. Assumes nothing.
use Rattle.std.specs.Prelude.{◌≡◌, ℕ, ◌+◌, ◌*◌, ◌^◌, ◌<◌, ◌≤◌, ◌⊎◌, List, [], ◌∷◌, ◌++◌, length, take, drop, ℤ, Ok, Err, Result, FitsSigned}
use Rattle.std.proofs.Common.{to_z}
use Rattle.std.specs.Int.{w32}
use Rattle.refusal.specs.Table.{number_of}
use Rattle.refusal.specs.declared.Refusal.{Refusal}
use Rattle.record.specs.declared.header.Header.{Header}
use Rattle.record.specs.declared.rows.Row.{Row}
use Rattle.values.specs.Flags.{flag_number}
use Rattle.record.specs.Layout.{header_length, row_length, most_rows, first_free, kind_number, lot_of, header_bytes, rows_bytes}

-- the number that bytes stand for, the lowest first
abbrev pub from_le : List ℕ → ℕ
from_le [] = 0
from_le (b ∷ bs) = b + 256 * from_le bs

-- the number in so many bytes at an offset, and one of four bytes with its sign
abbrev pub number_at : List ℕ → ℕ → ℕ → ℕ
number_at book at width = from_le (take width (drop at book))

abbrev pub signed_at : List ℕ → ℕ → ℤ
signed_at book at = to_z w32 (number_at book at 4)

-- the header: offset, bytes, field
pub record HeaderReads (book : List ℕ) (written : ℕ) (h : Header) : Type 0 where
  pub edition : number_at book 0 2 ≡ 1
  pub policy : number_at book 2 2 ≡ h.policy
  pub transactions : number_at book 4 4 ≡ h.transactions
  pub rows : number_at book 8 4 ≡ written
  pub first_row : number_at book 12 4 ≡ header_length
  pub first_free_byte : number_at book 16 4 ≡ first_free written
  pub next_serial : number_at book 20 4 ≡ h.next

-- the row at an offset: offset in the row, bytes, field
pub record RowReads (book : List ℕ) (at : ℕ) (r : Row) : Type 0 where
  pub line : number_at book (at + 0) 4 ≡ r.line
  pub transaction : number_at book (at + 4) 4 ≡ r.transaction
  pub date : number_at book (at + 8) 4 ≡ r.date
  pub account : number_at book (at + 12) 2 ≡ r.account
  pub commodity : number_at book (at + 14) 1 ≡ r.commodity
  pub kind : number_at book (at + 15) 1 ≡ kind_number r.kind
  pub units : signed_at book (at + 16) ≡ r.units
  pub cost : number_at book (at + 20) 4 ≡ (lot_of r.kind).cost
  pub lot_date : number_at book (at + 24) 4 ≡ (lot_of r.kind).acquired
  pub serial : number_at book (at + 28) 4 ≡ (lot_of r.kind).serial
  pub cost_commodity : number_at book (at + 32) 1 ≡ (lot_of r.kind).currency
  pub flag : number_at book (at + 33) 1 ≡ flag_number r.flag
  pub zeros : number_at book (at + 34) 2 ≡ 0

-- each new row stands behind those before it, and every field of it is read back
abbrev pub RowsRead : List ℕ → ℕ → List Row → Type 0
RowsRead book written rows =
    (before : List Row) (r : Row) (behind : List Row) → rows ≡ before ++ (r ∷ behind) → RowReads book (first_free (written + length before)) r

-- a row's numbers keep to the widths of their types
pub record Sized (r : Row) : Type 0 where
  pub line : r.line < 2 ^ 32
  pub transaction : r.transaction < 2 ^ 32
  pub date : r.date < 2 ^ 32
  pub account : r.account < 2 ^ 16
  pub units : FitsSigned w32 r.units
  pub cost : (lot_of r.kind).cost < 2 ^ 32
  pub lot_date : (lot_of r.kind).acquired < 2 ^ 32
  pub serial : (lot_of r.kind).serial < 2 ^ 32

abbrev pub AllSized : List Row → Type 0
AllSized rows = (before : List Row) (r : Row) (behind : List Row) → rows ≡ before ++ (r ∷ behind) → Sized r

-- What a host finds after rows were appended. Part by part: the header, the rows written before as they were,
-- the new rows in order, and all bytes behind them as they were; and the header and each new row as they are read
pub record Appended (written : ℕ) (rows : List Row) (h : Header) (before after : List ℕ) : Type 0 where
  pub old_header : List ℕ
  pub old_rows : List ℕ
  pub free : List ℕ
  pub rest : List ℕ
  pub old_header_size : length old_header ≡ header_length
  pub old_rows_size : length old_rows ≡ row_length * written
  pub free_size : length free ≡ row_length * length rows
  pub was : before ≡ old_header ++ (old_rows ++ (free ++ rest))
  pub is : after ≡ header_bytes (written + length rows) h ++ (old_rows ++ (rows_bytes rows ++ rest))
  pub same_length : length after ≡ length before
  pub header_reads : HeaderReads after (written + length rows) h
  pub rows_read : RowsRead after written rows

-- after the header alone was written: the header, also as it is read, and all bytes behind it as they were
pub record Headed (written : ℕ) (h : Header) (before after : List ℕ) : Type 0 where
  pub old_header : List ℕ
  pub rest : List ℕ
  pub old_header_size : length old_header ≡ header_length
  pub was : before ≡ old_header ++ rest
  pub is : after ≡ header_bytes written h ++ rest
  pub same_length : length after ≡ length before
  pub header_reads : HeaderReads after written h

-- the answer by number, as a user sees it: 31 where the record is too short, 32 where it is not and the rows are too many
abbrev pub Room : ℕ → ℕ → Result (Unit {0}) Refusal → Type 0
Room size rows (Ok _) = (first_free rows ≤ size) × (rows ≤ most_rows)
Room size rows (Err e) = ((number_of e ≡ 31) × (size < first_free rows)) ⊎ ((number_of e ≡ 32) × (first_free rows ≤ size) × (most_rows < rows))
