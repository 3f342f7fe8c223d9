use Rattle.std.proofs.Common.{◌≡◌, None, rules}
use Rattle.lots.specs.declared.rows.LotRow.{LotRow}
use Rattle.stock.specs.Places.{OpenAt}
use Rattle.stock.specs.Tables.{Table}
use Rattle.stock.proofs.Purchases.{kept_opened}
use Rattle.stock.proofs.table.LotTable.start.Goals as goal

-- what the table and the bought lot are behind their models
none_open : (inside seen : Table) (row bought : LotRow) → inside ≡ seen → row ≡ bought → OpenAt bought.key seen.lots None → OpenAt row.key inside.lots None
none_open inside seen row bought same same_row none = rw (same, same_row) none

pub invariant_of-self-2 : goal.invariant_of-self-2
invariant_of-self-2 c =
    kept_opened (record { lots = c.self.inside.rows; next = c.self.inside.next }) c.row.result.key c.row.result.units c.push.new.self c.in_ok-next.next (search rules) (search rules) (search rules) c.row.ensures.ranges (none_open _ _ _ _ c.self.view_is c.row.ensures.row c.requires) c.self.invariant

pub returns-clause-kept : goal.returns-clause-kept
returns-clause-kept c =
    kept_opened (record { lots = c.self.inside.rows; next = c.self.inside.next }) c.row.result.key c.row.result.units c.push.new.self c.in_ok-next.next (search rules) (search rules) (search rules) c.row.ensures.ranges (none_open _ _ _ _ c.self.view_is c.row.ensures.row c.requires) c.self.invariant
