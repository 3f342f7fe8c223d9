-- Faults that name no place.
use Rattle.std.specs.Prelude.{ℕ}
use Rattle.refusal.specs.declared.Refusal.{Refusal}
use Rattle.refusal.specs.declared.Fault.{Fault}

-- a refusal outside the text of a line
abbrev pub fault_at : ℕ → Refusal → Fault
fault_at line refusal = record { refusal = refusal; line = line; place = 0 }
