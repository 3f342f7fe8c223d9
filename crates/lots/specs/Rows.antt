-- Lots by their plain rows: which rows are a lot's, and what changes of units leave.
use Rattle.std.specs.Prelude.{ℕ, ◌+◌, ◌-◌, Bool, cond, ◌&&◌, Some, None, Option, ◌==◌, nat_le, nat_lt}
use Rattle.lots.specs.declared.rows.Cost.{Cost}
use Rattle.lots.specs.declared.rows.Key.{Key}
use Rattle.lots.specs.declared.rows.LotRow.{LotRow}

abbrev pub same_cost : Cost → Cost → Bool
same_cost a b = a.number == b.number && a.commodity == b.commodity

-- all five parts agree: account, commodity, unit cost, cost commodity, lot date
abbrev pub same_key : Key → Key → Bool
same_key a b = a.account == b.account && (a.commodity == b.commodity && (same_cost a.cost b.cost && a.date == b.date))

-- a row of zeros, which is no lot's: what is read past the end of a list
abbrev pub no_lot : LotRow
no_lot = record { key = record { account = 0; commodity = 0; cost = record { number = 0; commodity = 0 }; date = 0 }; units = 0; serial = 0 }

-- the most units of a lot, and the highest unit cost, in hundredths
abbrev pub most : ℕ
most = 99999999

-- whether a row is within a lot's ranges
abbrev pub in_range : LotRow → Bool
in_range r = nat_le 1 r.units && (nat_le r.units most && nat_le r.key.cost.number most)

abbrev pub lot_in : LotRow → Option LotRow
lot_in r = cond (in_range r) (Some r) None

abbrev pub with_units : LotRow → ℕ → LotRow
with_units r n = record { key = r.key; units = n; serial = r.serial }

abbrev pub with_fewer : LotRow → ℕ → LotRow
with_fewer r n = with_units r (r.units - n)

abbrev pub with_more : LotRow → ℕ → LotRow
with_more r n = with_units r (r.units + n)

-- a lot less n units; emptied it is gone
abbrev pub shrunk : LotRow → ℕ → Option LotRow
shrunk r n = cond (nat_le r.units n) None (Some (with_fewer r n))

-- a lot with n units more, unless it would pass the most
abbrev pub grown : LotRow → ℕ → Option LotRow
grown r n = cond (nat_lt most (r.units + n)) None (Some (with_more r n))
