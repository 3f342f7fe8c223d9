-- What entries add to one balance.
use Rattle.std.specs.Prelude.{ℕ, ◌||◌, Bool, true, cond, List, [], ◌∷◌, ℤ, pos, ◌+ℤ◌, nat_eq, nat_le, slice_index_or, unsigned_abs}
use Rattle.booking.specs.declared.entry.Entry.{Entry}
use Rattle.booking.specs.declared.entry.EntryKind.{EntryKind}
use Rattle.booking.specs.declared.entry.EntryKind.TheVariants.{PlainAmount, Unfilled, Filled, Bought, Drew}
use Rattle.booking.specs.Limits.{balance_count}
use Rattle.booking.specs.Balances.{balance_place, largest_balance}

-- what an entry of this kind adds to the balance at a place
abbrev pub amount_at : ℕ → EntryKind → ℤ
amount_at place (PlainAmount account amount commodity) = cond (nat_eq (balance_place account commodity) place) amount (pos 0)
amount_at place (Unfilled account) = pos 0
amount_at place (Filled account amount commodity) = cond (nat_eq (balance_place account commodity) place) amount (pos 0)
amount_at place (Bought key units serial) = pos 0
amount_at place (Drew draw) = pos 0

abbrev pub sum_at : ℕ → List Entry → ℤ
sum_at place [] = pos 0
sum_at place (e ∷ es) = amount_at place e.kind +ℤ sum_at place es

-- the balance at a place stays within its bound after entries; a place past the last has none
abbrev pub place_stays : List ℤ → List Entry → ℕ → Bool
place_stays bs es place = nat_le balance_count place || nat_le (unsigned_abs (slice_index_or bs place (pos 0) +ℤ sum_at place es)) largest_balance

-- the balance that an entry of this kind adds to, if it adds to one
abbrev pub kind_stays : List ℤ → List Entry → EntryKind → Bool
kind_stays bs es (PlainAmount account amount commodity) = place_stays bs es (balance_place account commodity)
kind_stays bs es (Unfilled account) = true
kind_stays bs es (Filled account amount commodity) = place_stays bs es (balance_place account commodity)
kind_stays bs es (Bought key units serial) = true
kind_stays bs es (Drew draw) = true
