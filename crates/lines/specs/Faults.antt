-- The refusal that a line's fault is; a fault of a field comes up to its line unchanged. Assumes nothing.
use Rattle.std.specs.Prelude.{ℕ}
use Rattle.refusal.specs.declared.Fault.{Fault}
use Rattle.refusal.specs.declared.Refusal.TheVariants.{WrongByte, UnknownForm, BadDate, BadAccountName, BadCommodityName, BadNumber, BadQuotedText, BadBraces}
use Rattle.fields.specs.declared.fault.FieldFault.{FieldFault}
use Rattle.fields.specs.declared.fault.FieldFault.TheVariants as field
use Rattle.lines.specs.declared.fault.LineFault.{LineFault}
use Rattle.lines.specs.declared.fault.LineFault.TheVariants as fault

-- a field's fault as it is reported of a line
abbrev pub field_fault_on : ℕ → FieldFault → Fault
field_fault_on line (field.Number p) = record { refusal = BadNumber; line = line; place = p }
field_fault_on line (field.Date p) = record { refusal = BadDate; line = line; place = p }
field_fault_on line (field.Commodity p) = record { refusal = BadCommodityName; line = line; place = p }
field_fault_on line (field.Account p) = record { refusal = BadAccountName; line = line; place = p }
field_fault_on line (field.QuotedText p) = record { refusal = BadQuotedText; line = line; place = p }

-- a fault as it is reported of a line: its refusal, and the place of the field at fault
abbrev pub fault_on : ℕ → LineFault → Fault
fault_on line (fault.WrongByte p) = record { refusal = WrongByte; line = line; place = p }
fault_on line (fault.Form p) = record { refusal = UnknownForm; line = line; place = p }
fault_on line (fault.Field f) = field_fault_on line f
fault_on line (fault.Braces p) = record { refusal = BadBraces; line = line; place = p }
