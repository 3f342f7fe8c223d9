use Rattle.std.proofs.Common.{◌≡◌, ℕ, ◌*◌, ◌<◌, ◌++◌, get_or, take, drop}
use Rattle.record.specs.Layout.{rows_bytes, row_length}
use Rattle.record.specs.Promises.{Sized}
use Rattle.record.proofs.Written.{no_row}
use Rattle.record.proofs.writer.write_rows.Given as goal

-- the rows so far stand first, the rest is as it was; and the rows so far keep to their types' widths
abbrev pub invariant-loop-i : goal.invariant-loop-i
invariant-loop-i l =
    (l.out ≡ rows_bytes (take l.i l.rows) ++ drop (row_length * l.i) l.initial.out)
    × ((k : ℕ) → k < l.i → Sized (get_or l.rows k no_row))
