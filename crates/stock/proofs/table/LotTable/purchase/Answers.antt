use Rattle.std.proofs.Common.{◌≡◌, ◌≤◌, Some, None, Ok, rules}
use Rattle.lots.specs.Rows.{most}
use Rattle.stock.specs.Places.{OpenAt}
use Rattle.stock.specs.Tables.{Table}
use Rattle.stock.proofs.Keeping.{kept_grown}
use Rattle.stock.proofs.Purchases.{grown_at, grown_promised, opened_promised}
use Rattle.stock.proofs.table.LotTable.purchase.Goals as goal

pub returns-in_default : goal.returns-in_default
returns-in_default c =
    let b = c.args.bought.now in
    let none : OpenAt b.key c.args.self.now.lots None = search rules in
    let small : b.units ≤ most = search rules in
    let p = opened_promised b.key b.units c.args.self.now (c.start.result, c.start.new.self) small none c.start.ensures.opened in
    record { booked = p.0; out_of_serials = p.1; brings_units = p.2; one_lot_more = search rules; one_serial_more = search rules; ranges = search rules; kept = (c.lots.ensures.kept, c.start.ensures.kept); refusal_changes_nothing = search rules }

pub returns-in_err-ok_or : goal.returns-in_err-ok_or
returns-in_err-ok_or c =
    let b = c.args.bought.now in
    let t = c.args.self.now in
    let here : OpenAt b.key t.lots (Some c.in-Some.place) = search rules in
    let grew : (c.from_residual.result, t) ≡ grown_at c.in-Some.place b.units t = search rules in
    let p = grown_promised b.key b.units t (c.from_residual.result, t) c.lots.ensures.kept c.in-Some.place here grew in
    record { booked = p.0; out_of_serials = p.1; brings_units = p.2; one_lot_more = search rules; one_serial_more = search rules; ranges = search rules; kept = (c.lots.ensures.kept, c.lots.ensures.kept); refusal_changes_nothing = search rules }

pub invariant_of-self : goal.invariant_of-self
invariant_of-self c =
    kept_grown (record { lots = c.self.inside.rows; next = c.self.inside.next }) c.in-Some.place c.row-row.result.units c.row-grown.result c.put.new.self c.put.ensures.written (search rules) (search rules) c.row-grown.ensures.ranges c.self.invariant

pub returns : goal.returns
returns c =
    let b = c.args.bought.now in
    let t = c.args.self.now in
    let after : Table = record { lots = c.put.new.self; next = c.self.inside.next } in
    let here : OpenAt b.key t.lots (Some c.in-Some.place) = search rules in
    let grew : (Ok c.row-grown.result.serial, after) ≡ grown_at c.in-Some.place b.units t = search rules in
    let kept = kept_grown (record { lots = c.self.inside.rows; next = c.self.inside.next }) c.in-Some.place c.row-row.result.units c.row-grown.result c.put.new.self c.put.ensures.written (search rules) (search rules) c.row-grown.ensures.ranges c.self.invariant in
    let p = grown_promised b.key b.units t (Ok c.row-grown.result.serial, after) c.lots.ensures.kept c.in-Some.place here grew in
    record { booked = p.0; out_of_serials = p.1; brings_units = p.2; one_lot_more = search rules; one_serial_more = search rules; ranges = search rules; kept = (c.lots.ensures.kept, kept); refusal_changes_nothing = tt }
