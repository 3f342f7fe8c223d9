-- Fields as bytes at a place, and the names among them. Assumes nothing.
use Rattle.std.specs.Prelude.{ℕ, cond, List, Ok, Err, Result}
use Rattle.values.specs.Names.{is_commodity_name, is_account_name}
use Rattle.fields.specs.declared.fault.FieldFault.{FieldFault}
use Rattle.fields.specs.declared.fault.FieldFault.TheVariants.{Commodity, Account}
use Rattle.fields.specs.declared.field.Field.{Field}

-- what a field shows, without its address in memory
pub record Spot : Type 0 where
  pub text : List ℕ
  pub place : ℕ

abbrev pub seen : Field → Spot
seen f = record { text = f.text.now; place = f.place }

unfoldable pub commodity_at : Spot → Result Spot FieldFault
commodity_at s = cond (is_commodity_name s.text) (Ok s) (Err (Commodity s.place))

unfoldable pub account_at : Spot → Result Spot FieldFault
account_at s = cond (is_account_name s.text) (Ok s) (Err (Account s.place))
