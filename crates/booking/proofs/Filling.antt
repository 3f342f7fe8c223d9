-- What filling the blank leaves of the entries, and that a whole amount balances the sum that it came from.
use Rattle.std.proofs.Common.{◌≡◌, ℕ, suc, ◌%◌, true, List, [], ◌∷◌, length, ℤ, pos, negsuc, ◌+ℤ◌, ◌*ℤ◌, refl, arith}
use Rattle.std.proofs.lemmas.Int.{ints}
use Rattle.std.proofs.lemmas.Bool.{eqb-true}
use Rattle.booking.specs.declared.entry.Entry.{Entry}
use Rattle.booking.specs.Weighing.{fill, unbalanced_in, weight_sum, filled_by, complete, is_whole, blank_amount}

pub length_fill : (z : ℤ) (c : ℕ) (es : List Entry) → length (fill z c es) ≡ length es
length_fill z c [] = refl
length_fill z c (e ∷ es) =
    let ih = length_fill z c es in
    grind arith

length_filled : (us : List ℕ) (es : List Entry) → length (filled_by us es) ≡ length es
length_filled [] es = refl
length_filled (c ∷ us) es = length_fill (blank_amount (weight_sum es c)) c es

pub length_complete : (es : List Entry) → length (complete es) ≡ length es
length_complete es = length_filled (unbalanced_in es) es

pub blank_balances : (sum : ℤ) → is_whole sum ≡ true → sum +ℤ blank_amount sum *ℤ pos 100 ≡ pos 0
blank_balances (pos n) whole = let e = eqb-true (n % 100) 0 whole in omega (arith, ints)
blank_balances (negsuc n) whole = let e = eqb-true (suc n % 100) 0 whole in omega (arith, ints)
