-- A record after a call, part by part.
use Rattle.std.proofs.Common.{◌≡◌, ℕ, ◌+◌, ◌*◌, ◌≤◌, List, ◌++◌, length, take, drop, sym, refl, ap, ◌∙◌, arith}
use Rattle.std.proofs.lemmas.List.{length-take-le, length-drop, length-append, take-append-drop, drop-append-le, drop-take, drop-drop, append_assoc}
use Rattle.record.specs.declared.header.Header.{Header}
use Rattle.record.specs.declared.rows.Row.{Row}
use Rattle.record.specs.Layout.{header_length, row_length, most_rows, first_free, rows_bytes, header_bytes, header_after, record_after}
use Rattle.record.specs.Promises.{Appended, Headed, AllSized}
use Rattle.record.proofs.Written.{rows_bytes_length}
use Rattle.record.proofs.Reading.{header_reads, rows_read, SizedHeader}

-- the part of n bytes at an offset, and what stands behind it
part : (at n : ℕ) (d : List ℕ) → drop at d ≡ take n (drop at d) ++ drop (at + n) d
part at n d = sym (take-append-drop n (drop at d)) ∙ ap (λ xs. take n (drop at d) ++ xs) (drop-drop n at d)

part_length : (at n : ℕ) (d : List ℕ) → at + n ≤ length d → length (take n (drop at d)) ≡ n
part_length at n d h = length-take-le n (drop at d) (simp length-drop (omega arith))

pub headed : (written : ℕ) (h : Header) (book : List ℕ) → header_length ≤ length book → written ≤ most_rows → SizedHeader h
    → Headed written h book (header_after written h book)
unfolding header_after
headed written h book room few sized =
    record {
      old_header = take header_length book;
      rest = drop header_length book;
      old_header_size = length-take-le header_length book room;
      was = sym (take-append-drop header_length book);
      is = refl;
      same_length = omega (arith, length-append (header_bytes written h) (drop header_length book), length-drop header_length book);
      header_reads = header_reads _ (drop header_length book) written h refl few sized;
    }

pub appended : (written : ℕ) (rows : List Row) (h : Header) (book : List ℕ) → first_free (written + length rows) ≤ length book → written + length rows ≤ most_rows
    → AllSized rows → SizedHeader h → Appended written rows h book (record_after written rows h book)
unfolding header_after record_after
appended written rows h book room few sized sized_header =
    let old = row_length * written in
    let new = row_length * length rows in
    let head = header_bytes (written + length rows) h in
    let old_rows = take old (drop header_length book) in
    let rest = drop (first_free written + new) book in
    let behind_header : drop header_length (take (first_free written) book) ≡ old_rows = drop-take header_length old book in
    let long : header_length ≤ length (take (first_free written) book) = omega (arith, length-take-le (first_free written) book (omega arith)) in
    let old_size : length old_rows ≡ old = part_length header_length old book (omega arith) in
    let is : record_after written rows h book ≡ head ++ (old_rows ++ (rows_bytes rows ++ rest)) =
    ap (λ xs. head ++ xs)
    (drop-append-le header_length (take (first_free written) book) (rows_bytes rows ++ drop (first_free written + length (rows_bytes rows)) book) long
    ∙ rw (behind_header, rows_bytes_length rows)) in
    record {
      old_header = take header_length book;
      old_rows = old_rows;
      free = take new (drop (first_free written) book);
      rest = rest;
      old_header_size = length-take-le header_length book (omega arith);
      old_rows_size = old_size;
      free_size = part_length (first_free written) new book (omega arith);
      was =
          sym (take-append-drop header_length book)
          ∙ ap (λ xs. take header_length book ++ xs)
          (part header_length old book ∙ ap (λ xs. old_rows ++ xs) (part (first_free written) new book));
      is = is;
      same_length =
          ap length is
          ∙ omega (arith, length-append head (old_rows ++ (rows_bytes rows ++ rest)), length-append old_rows (rows_bytes rows ++ rest), length-append (rows_bytes rows) rest, rows_bytes_length rows, length-drop (first_free written + new) book);
      header_reads = header_reads _ (old_rows ++ (rows_bytes rows ++ rest)) (written + length rows) h is few sized_header;
      rows_read =
          rows_read written rows (head ++ old_rows) rest _ (is ∙ sym (append_assoc head old_rows (rows_bytes rows ++ rest)))
          (omega (arith, length-append head old_rows)) sized;
    }
