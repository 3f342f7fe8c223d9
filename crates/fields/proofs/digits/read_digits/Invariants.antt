use Rattle.std.proofs.Common.{◌≡◌, ◌^◌, ◌<◌, drop}
use Rattle.fields.specs.Decimal.{decimal_after}
use Rattle.fields.proofs.digits.read_digits.Given as goal

-- what is left gives the answer, and n has at most as many digits as were read
abbrev pub invariant-loop-b : goal.invariant-loop-b
invariant-loop-b l = (decimal_after l.n (drop l.b-index l.text) ≡ decimal_after 0 l.text) × (l.n < 10 ^ l.b-index)
