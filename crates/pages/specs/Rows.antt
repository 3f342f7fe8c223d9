-- The rows of a record as its bytes have them (docs/RECORD.md).
use Rattle.std.specs.Prelude.{ℕ, ◌/◌, cond, List, [], length, take, drop, nat_le}
use Rattle.std.specs.Simd.{first_chunks}
use Rattle.record.specs.Layout.{header_length, row_length}
use Rattle.record.specs.Promises.{number_at, signed_at}
use Rattle.pages.specs.declared.rows.RowRead.{RowRead}

-- behind the header, one after another, as many as it counts and as are there whole
abbrev pub rows_in : List ℕ → List (List ℕ)
rows_in book =
    cond (nat_le header_length (length book))
    (take (number_at book 8 4) (first_chunks row_length (length (drop header_length book) / row_length) (drop header_length book)))
    []

-- each field is the number in its bytes
abbrev pub row_read : List ℕ → RowRead
row_read row = record {
  line = number_at row 0 4;
  transaction = number_at row 4 4;
  date = number_at row 8 4;
  account = number_at row 12 2;
  commodity = number_at row 14 1;
  kind = number_at row 15 1;
  units = signed_at row 16;
  lot = record { cost = number_at row 20 4; acquired = number_at row 24 4; serial = number_at row 28 4; currency = number_at row 32 1 };
  flag = number_at row 33 1;
}
