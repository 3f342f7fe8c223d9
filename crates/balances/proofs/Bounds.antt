-- How far balances can have moved after some entries.
use Rattle.std.proofs.Common.{◌≡◌, zero, suc, true, List, [], ◌∷◌, ℤ, arith}
use Rattle.std.proofs.lemmas.Bool.Decides.{nat_tests}
use Rattle.booking.specs.Balances.{all_within}
use Rattle.balances.specs.Bounds.{Near}

-- before any entry
pub near_none : (bs : List ℤ) → all_within bs ≡ true → Near bs 0
near_none [] small k h = omega arith
near_none (b ∷ bs) small zero h = grind (arith, nat_tests)
near_none (b ∷ bs) small (suc k) h = near_none bs (grind (arith, nat_tests)) k (omega arith)
