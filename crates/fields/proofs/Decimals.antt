-- The steps of reading digits.
use Rattle.std.proofs.lemmas.Bool.Decides.{nat_tests}
use Rattle.std.proofs.Common.{◌≡◌, ℕ, ◌-◌, ◌^◌, ◌<◌, ◌≤◌, true, Some, arith}
use native.Mathlib.Nat.{pow-le-pow_right}
use Rattle.std.specs.Char.{is_ascii_digit, digit_value}
use Rattle.std.specs.Option.{SomeIff}

-- what a byte's digit is
pub digit_found : (b d : ℕ) → SomeIff (Some d) (digit_value b < 10) (digit_value b) → (is_ascii_digit b ≡ true) × (d ≡ b - 48) × (d ≤ 9)
digit_found b d h = grind (arith, nat_tests)

-- fewer than nine digits leave room for one more in 32 bits
pub room : (n i : ℕ) → n < 10 ^ i → i < 9 → n < 100000000
room n i h k = let q : i ≤ 8 = omega arith in let p : 10 ^ i ≤ 10 ^ 8 = pow-le-pow_right (omega arith) q in omega arith
