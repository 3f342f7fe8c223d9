use Rattle.std.proofs.Common.{◌≡◌, drop}
use Rattle.booking.specs.Weighing.{blank_account}
use Rattle.booking.proofs.entries.blank_account.Given as goal

abbrev pub invariant-loop-entry : goal.invariant-loop-entry
invariant-loop-entry l = blank_account (drop l.entry-index l.entries) ≡ blank_account l.entries
