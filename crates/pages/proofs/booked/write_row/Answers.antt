use Rattle.std.proofs.Common.{◌≡◌, [], ◌++◌, refl, rules}
use Rattle.std.specs.String.{string_bytes}
use Rattle.pages.specs.Pages.{row_head, units_text, serial_text, row_line, newline}
use Rattle.pages.proofs.Appending.{next, last}
use Rattle.pages.proofs.booked.write_row.Goals as goal

pub returns : goal.returns
unfolding row_line
returns g c =
    let names = c.args.ledger.now.state.names in
    let row = c.args.row.now in
    let units = units_text names row.units row.commodity in
    let serial = serial_text row.lot.serial in
    let headed = next (string_bytes c.args.out.now) (row_head names row) (units ++ (serial ++ (newline ++ []))) refl c.in_ok-write_row_head.ensures in
    let more : string_bytes c.write_units.new.out ≡ string_bytes c.write_row_head.new.out ++ units = search rules in
    let counted = next (string_bytes c.write_row_head.new.out) units (serial ++ (newline ++ [])) headed more in
    let numbered = next (string_bytes c.write_units.new.out) serial (newline ++ []) counted c.in_ok-write_serial.ensures in
    last (string_bytes c.write_serial.new.out) newline (string_bytes c.writeln.new.self) c.writeln.result numbered c.writeln.ensures.bytes
