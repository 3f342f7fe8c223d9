-- Bytes of a record: a header, rows, and what stands behind them.
use Rattle.std.proofs.Common.{◌≡◌, ℕ, ◌+◌, List, [], ◌++◌, length, take, drop, sym, ap, ◌∙◌, zero-add, arith}
use Rattle.std.proofs.lemmas.List.{append_assoc, length-append, take_at, drop_at, drop-drop, take-append-drop}
use Rattle.std.proofs.lemmas.Grind.{flat_map-append}
use Rattle.record.specs.declared.header.Header.{Header}
use Rattle.record.specs.declared.rows.Row.{Row}
use Rattle.record.specs.Layout.{header_length, first_free, row_bytes, rows_bytes, header_bytes, write_at, header_after, record_after}
use Rattle.record.proofs.Written.{rows_bytes_length}

-- bytes written behind a front
write_behind : (front rest new : List ℕ) (n : ℕ) → length front ≡ n → write_at (front ++ rest) n new ≡ front ++ (new ++ drop (length new) rest)
write_behind front rest new n size =
    rw (take_at front rest n size, ← drop-drop (length new) n (front ++ rest), drop_at front rest n size)

-- a header written over another
write_over : (old new rest : List ℕ) → length old ≡ length new → write_at (old ++ rest) 0 new ≡ new ++ rest
write_over old new rest size =
    rw (zero-add (length new), drop_at old rest (length new) size)

-- the header alone
pub headed_over : (old rest : List ℕ) (rows : ℕ) (h : Header) → length old ≡ header_length → header_after rows h (old ++ rest) ≡ header_bytes rows h ++ rest
unfolding header_after
headed_over old rest rows h size = write_over old (header_bytes rows h) rest size

-- new rows behind old ones, and then the header
pub recorded_behind : (old start : List ℕ) (rows new : List Row) (written : ℕ) (h : Header) → length old ≡ header_length → length rows ≡ written
    → record_after written new h (old ++ (rows_bytes rows ++ drop (first_free written) start)) ≡ header_bytes (written + length new) h ++ (rows_bytes (rows ++ new) ++ drop (first_free (written + length new)) start)
unfolding record_after
recorded_behind old start rows new written h size counted =
    let behind = drop (first_free written) start in
    let bytes = rows_bytes_length rows in
    let front : length (old ++ rows_bytes rows) ≡ first_free written = length-append old (rows_bytes rows) ∙ omega arith in
    let more : drop (length (rows_bytes new)) behind ≡ drop (first_free (written + length new)) start =
    drop-drop (length (rows_bytes new)) (first_free written) start ∙ ap (λ n. drop n start) (ap (λ n. first_free written + n) (rows_bytes_length new) ∙ omega arith) in
    rw (
      ← append_assoc old (rows_bytes rows) behind,
      write_behind (old ++ rows_bytes rows) behind (rows_bytes new) (first_free written) front,
      append_assoc old (rows_bytes rows) (rows_bytes new ++ drop (length (rows_bytes new)) behind),
      headed_over old (rows_bytes rows ++ (rows_bytes new ++ drop (length (rows_bytes new)) behind)) (written + length new) h size,
      more,
      flat_map-append row_bytes rows new,
    ) (simp append_assoc)

-- a record that was not written to, as a header's place and the rest
pub untouched : (start : List ℕ) → start ≡ take header_length start ++ ([] ++ drop (first_free 0) start)
untouched start = sym (take-append-drop header_length start)
