-- The row of the record that an entry of a transaction becomes.
use Rattle.std.specs.Prelude.{ℕ, List, map, ℤ, pos, neg_ℤ}
use Rattle.lots.specs.declared.rows.Key.{Key}
use Rattle.record.specs.declared.rows.Row.{Row}
use Rattle.record.specs.declared.rows.LotFields.{LotFields}
use Rattle.record.specs.declared.rows.RowKind.{RowKind}
use Rattle.record.specs.declared.rows.RowKind.TheVariants.{Plain, Purchase, Draw, FilledBlank}
use Rattle.booking.specs.declared.entry.Entry.{Entry}
use Rattle.booking.specs.declared.entry.EntryKind.{EntryKind}
use Rattle.booking.specs.declared.entry.EntryKind.TheVariants.{PlainAmount, Unfilled, Filled, Bought, Drew}
use Rattle.booking.specs.declared.entry.Transaction.{Transaction}

-- a lot of this key and serial, as its row states it
abbrev pub lot_fields : Key → ℕ → LotFields
lot_fields key serial = record { cost = key.cost.number; acquired = key.date; serial = serial; currency = key.cost.commodity }

abbrev pub row : Transaction → ℕ → ℕ → ℕ → RowKind → ℤ → Row
row x line account commodity kind units =
    record { line = line; transaction = x.number; date = x.date; account = account; commodity = commodity; kind = kind; units = units; flag = x.flag }

-- units bought are above 0, units drawn below; a blank that is not filled yet has no commodity and no amount
abbrev pub row_of_kind : Transaction → ℕ → EntryKind → Row
row_of_kind x line (PlainAmount account amount commodity) = row x line account commodity Plain amount
row_of_kind x line (Unfilled account) = row x line account 0 FilledBlank (pos 0)
row_of_kind x line (Filled account amount commodity) = row x line account commodity FilledBlank amount
row_of_kind x line (Bought key units serial) = row x line key.account key.commodity (Purchase (lot_fields key serial)) (pos units)
row_of_kind x line (Drew draw) =
    row x line draw.lot.key.account draw.lot.key.commodity (Draw (lot_fields draw.lot.key draw.lot.serial)) (neg_ℤ (pos draw.units))

abbrev pub row_of : Transaction → Entry → Row
row_of x e = row_of_kind x e.line e.kind

-- one row for each entry, in order
abbrev pub rows_of : Transaction → List Entry → List Row
rows_of x es = map (row_of x) es
