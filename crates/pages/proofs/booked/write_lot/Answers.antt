use Rattle.std.proofs.Common.{◌≡◌, [], ◌∷◌, ◌++◌, pos, refl, rules}
use Rattle.std.specs.String.{string_bytes}
use Rattle.pages.specs.Pages.{lot_head, units_text, lot_end, lot_line}
use Rattle.pages.proofs.Appending.{next, last}
use Rattle.pages.proofs.booked.write_lot.Goals as goal

pub returns : goal.returns
unfolding lot_line
returns g c =
    let names = c.args.ledger.now.state.names in
    let lot = c.args.lot.now in
    let units = units_text names (pos lot.units) lot.key.commodity in
    let cost = units_text names (pos lot.key.cost.number) lot.key.cost.commodity in
    let end = lot_end lot ++ [] in
    let headed = next (string_bytes c.args.out.now) (lot_head names lot) (units ++ ((32 ∷ []) ++ (cost ++ end))) refl c.in_ok-write_lot_head.ensures in
    let more : string_bytes c.write_units.new.out ≡ string_bytes c.write_lot_head.new.out ++ units = search rules in
    let counted = next (string_bytes c.write_lot_head.new.out) units ((32 ∷ []) ++ (cost ++ end)) headed more in
    let spaced = next (string_bytes c.write_units.new.out) (32 ∷ []) (cost ++ end) counted c.in_ok-write.ensures.bytes in
    let more : string_bytes c.write_units-2.new.out ≡ string_bytes c.write.new.self ++ cost = search rules in
    let priced = next (string_bytes c.write.new.self) cost end spaced more in
    last (string_bytes c.write_units-2.new.out) (lot_end lot) (string_bytes c.write_lot_end.new.out) c.write_lot_end.result priced c.write_lot_end.ensures
