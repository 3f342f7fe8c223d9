-- What a booked draft comes to once it is weighed.
use Rattle.std.specs.Prelude.{ℕ, cond, List, ℤ, Ok, Err, Option, Result}
use Rattle.refusal.specs.declared.Refusal.{Refusal}
use Rattle.refusal.specs.declared.Refusal.TheVariants.{BalanceTooLarge}
use Rattle.refusal.specs.Refusing.{first_met, unless}
use Rattle.booking.specs.declared.posting.Posting.{Posting}
use Rattle.booking.specs.declared.entry.Entry.{Entry}
use Rattle.booking.specs.Weighing.{complete}
use Rattle.booking.specs.Balances.{balances_after, all_within, weighing_tests}

-- 27: whether balances may become what entries make of them
abbrev pub settled_balances : List ℤ → List Entry → Result (Unit {0}) Refusal
settled_balances bs es = cond (all_within (balances_after bs es)) (Ok tt) (Err BalanceTooLarge)

-- the first of 25, 26 and 27 that a draft meets, or its entries with the blank filled
abbrev pub weighed : List Posting → Option ℕ → List ℤ → List Entry → Result (List Entry) Refusal
weighed ps own bs es = unless (first_met (weighing_tests ps own bs es)) (complete es)
