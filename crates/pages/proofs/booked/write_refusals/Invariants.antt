use Rattle.std.proofs.Common.{◌≡◌, ◌++◌, drop}
use Rattle.std.specs.String.{string_bytes}
use Rattle.pages.specs.Pages.{refusal_lines}
use Rattle.pages.proofs.booked.write_refusals.Given as goal

abbrev pub invariant-loop-outcome : goal.invariant-loop-outcome
invariant-loop-outcome l = string_bytes l.out ++ refusal_lines (drop l.outcome-index l.outcomes) ≡ string_bytes l.initial.out ++ refusal_lines l.outcomes
