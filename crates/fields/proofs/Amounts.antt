-- What a result of number reading says of its text.
use Rattle.std.proofs.Common.{◌≡◌, ℕ, List, ℤ, Some, None, Ok, Err, Option, Result, ap, arith, MatchResult, MatchOption, IfSome}
use Rattle.std.specs.Option as options
use Rattle.values.specs.Amounts.{InRange}
use Rattle.values.specs.declared.amount.Amount.{Amount}
use Rattle.fields.specs.Denotes.{Denotes}
use Rattle.fields.specs.Numbers.{number, number_at}
use Rattle.fields.specs.Results.{map_ok}
use Rattle.fields.specs.declared.fault.FieldFault.{FieldFault}
use Rattle.fields.proofs.Denotations.{reading_denotes}
use Rattle.fields.proofs.Options.{from_ok, from_err}

-- a number in range makes an amount
pub amount_read : (o : Option ℤ) (r : Option Amount) → IfSome o InRange → MatchOption o (r ≡ None) (λ z. MatchOption r (InRange z → ⊥) (λ a. InRange z × (a.hundredths ≡ z))) → options.option_map (λ (a : Amount). a.hundredths) r ≡ o
amount_read None r h e = ap (options.option_map (λ (a : Amount). a.hundredths)) e
amount_read (Some z) None h n = absurd (n h)
amount_read (Some z) (Some a) h p = ap Some p.1

pub denotes_exactly : (r : Result Amount FieldFault) (t : List ℕ) (place : ℕ) → map_ok (λ (a : Amount). a.hundredths) r ≡ number_at t place → MatchResult r (λ a. Denotes t a.hundredths) (λ _. (v : ℤ) → Denotes t v → ⊥)
unfolding number_at
denotes_exactly (Ok a) t place h = (reading_denotes t a.hundredths).0 (from_ok (number t) _ _ h)
denotes_exactly (Err f) t place h =
    λ v d.
    let e = (reading_denotes t v).1 d in
    let n = from_err (number t) _ f h in
    grind arith
