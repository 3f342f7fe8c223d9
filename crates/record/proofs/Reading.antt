-- Fields read back from a record.
use Rattle.std.proofs.lemmas.Bool.Decides.{nat_tests}
use Rattle.std.proofs.Common.{◌≡◌, ℕ, ◌+◌, ◌^◌, ◌<◌, ◌≤◌, List, ◌∷◌, ◌++◌, length, take, drop, ℤ, sym, refl, ap, ◌∙◌, subst, arith, w32, SFits, to_z, of_z}
use mir.Facts.{Fits-of_z}
use Rattle.std.proofs.lemmas.List.{drop_at, drop-drop, append_assoc, length-append}
use Rattle.std.proofs.lemmas.Int.{to_z-of_z}
use Rattle.std.proofs.lemmas.Grind.{flat_map-append}
use Rattle.record.specs.declared.header.Header.{Header}
use Rattle.record.specs.declared.rows.Row.{Row}
use Rattle.record.specs.Layout.{first_free, most_rows, le2, le4, row_bytes, rows_bytes, header_bytes}
use Rattle.record.specs.Promises.{from_le, number_at, HeaderReads, RowReads, RowsRead, Sized, AllSized}
use Rattle.record.proofs.Written.{rows_bytes_length}

-- a header's numbers keep to the widths of their types
pub record SizedHeader (h : Header) : Type 0 where
  pub policy : h.policy < 2 ^ 16
  pub transactions : h.transactions < 2 ^ 32
  pub next : h.next < 2 ^ 32

le2_read : (n : ℕ) → n < 2 ^ 16 → from_le (le2 n) ≡ n
le2_read n h = omega arith

le4_read : (n : ℕ) → n < 2 ^ 32 → from_le (le4 n) ≡ n
le4_read n h = grind (arith, nat_tests)

signed_read : (z : ℤ) → SFits w32 z → to_z w32 (from_le (le4 (of_z w32 z))) ≡ z
signed_read z h = ap (to_z w32) (le4_read (of_z w32 z) (Fits-of_z h).fits) ∙ to_z-of_z w32 z h

-- a number at an offset behind the front of a record
behind : (book front tail : List ℕ) (at k width : ℕ) → book ≡ front ++ tail → length front ≡ at → number_at book (at + k) width ≡ from_le (take width (drop k tail))
behind book front tail at k width is size =
    ap (λ xs. from_le (take width xs)) (rw is (sym (drop-drop k at (front ++ tail)) ∙ ap (drop k) (drop_at front tail at size)))

pub row_reads : (book front tail : List ℕ) (at : ℕ) (r : Row) → book ≡ front ++ (row_bytes r ++ tail) → length front ≡ at → Sized r → RowReads book at r
row_reads book front tail at r is size s =
    let bytes = row_bytes r ++ tail in
    record {
      line = behind book front bytes at 0 4 is size ∙ le4_read r.line s.line;
      transaction = behind book front bytes at 4 4 is size ∙ le4_read r.transaction s.transaction;
      date = behind book front bytes at 8 4 is size ∙ le4_read r.date s.date;
      account = behind book front bytes at 12 2 is size ∙ le2_read r.account s.account;
      commodity = behind book front bytes at 14 1 is size ∙ omega arith;
      kind = behind book front bytes at 15 1 is size ∙ omega arith;
      units = ap (to_z w32) (behind book front bytes at 16 4 is size) ∙ signed_read r.units s.units;
      cost = behind book front bytes at 20 4 is size ∙ le4_read _ s.cost;
      lot_date = behind book front bytes at 24 4 is size ∙ le4_read _ s.lot_date;
      serial = behind book front bytes at 28 4 is size ∙ le4_read _ s.serial;
      cost_commodity = behind book front bytes at 32 1 is size ∙ omega arith;
      flag = behind book front bytes at 33 1 is size ∙ omega arith;
      zeros = behind book front bytes at 34 2 is size;
    }

pub header_reads : (book tail : List ℕ) (written : ℕ) (h : Header) → book ≡ header_bytes written h ++ tail → written ≤ most_rows → SizedHeader h → HeaderReads book written h
header_reads book tail written h is few s =
    subst (λ (bytes : List ℕ). HeaderReads bytes written h) (sym is)
    (record {
      edition = refl;
      policy = le2_read h.policy s.policy;
      transactions = le4_read h.transactions s.transactions;
      rows = le4_read written (omega arith);
      first_row = refl;
      first_free_byte = le4_read (first_free written) (omega arith);
      next_serial = le4_read h.next s.next;
    })

pub rows_read : (written : ℕ) (rows : List Row) (front rest book : List ℕ) → book ≡ front ++ (rows_bytes rows ++ rest) → length front ≡ first_free written → AllSized rows
    → RowsRead book written rows
rows_read written rows front rest book is size sized before r later split =
    let around : book ≡ (front ++ rows_bytes before) ++ (row_bytes r ++ (rows_bytes later ++ rest)) = is ∙ rw (split, flat_map-append row_bytes before (r ∷ later)) (simp append_assoc) in
    let long : length (front ++ rows_bytes before) ≡ first_free (written + length before) = omega (arith, length-append front (rows_bytes before), rows_bytes_length before) in
    row_reads book (front ++ rows_bytes before) (rows_bytes later ++ rest) (first_free (written + length before)) r around long (sized before r later split)
