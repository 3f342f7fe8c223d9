-- What a line says where no byte of it is wrong.
use Rattle.std.proofs.Common.{◌≡◌, ℕ, Option, Some, None, Result, Ok, refl, arith}
use Rattle.lines.specs.Lines.{unless_wrong}
use Rattle.lines.specs.declared.fault.LineFault.{LineFault}

pub not_wrong : {A : Type 0} (o : Option ℕ) (r : Result A LineFault) → unless_wrong o (Ok (tt {0})) ≡ Ok tt → unless_wrong o r ≡ r
not_wrong None r h = refl
not_wrong (Some p) r h = absurd (grind arith)
