use Rattle.std.proofs.Common.{◌≡◌, take, sym, ◌∙◌, arith, w32, SFits, rules}
use Rattle.std.proofs.lemmas.List.{take_all}
use Rattle.std.proofs.lemmas.Int.{to_z-of_z}
use Rattle.record.specs.Layout.{row_bytes, row_length}
use Rattle.record.proofs.writer.write_row.Goals as goal

-- each field stands behind those before it, so the last one ends the row
pub returns-clause-bytes : goal.returns-clause-bytes
returns-clause-bytes c =
    let fits : SFits w32 c.args.row.now.units = search rules in
    let all : take row_length c.put-10.new.out ≡ row_bytes c.args.row.now =
    rw (c.put-10.ensures.front, c.put-9.ensures.front, c.put-8.ensures.front, c.put-7.ensures.front, c.put-6.ensures.front, c.put-5.ensures.front, c.put-4.ensures.front, c.put-3.ensures.front, c.put-2.ensures.front, c.put.ensures.front)
    (rw (c.to_le_bytes.ensures, c.to_le_bytes-2.ensures, c.to_le_bytes-3.ensures, c.to_le_bytes-4.ensures, c.to_le_bytes-5.ensures, c.to_le_bytes-6.ensures, c.to_le_bytes-7.ensures, c.to_le_bytes-8.ensures)
    (rw (c.lot-lot.ensures, c.number.ensures, c.number-2.ensures) (simp to_z-of_z))) in
    sym (take_all row_length c.put-10.new.out (omega arith)) ∙ all
