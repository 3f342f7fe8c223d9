-- Which commodities are out of balance, as far as it matters: none, one with its sum, or several.
use Rattle.std.specs.Prelude.{ℕ, cond, ◌&&◌, List, [], ◌∷◌, ℤ, Some, None, Ok, Err, Option, Result}
use Rattle.refusal.specs.declared.Refusal.{Refusal}
use Rattle.refusal.specs.declared.Refusal.TheVariants.{BlankCannotBeFilled}
use Rattle.refusal.specs.Refusing.{first_met, unless}
use Rattle.values.specs.Amounts.{is_amount}
use Rattle.record.specs.Layout.{if_ok}
use Rattle.booking.specs.declared.posting.Posting.{Posting}
use Rattle.booking.specs.declared.entry.Entry.{Entry}
use Rattle.booking.specs.Balances.{balancing_tests}
use Rattle.booking.specs.Weighing.{is_zero, is_whole, own_agrees, blank_amount, fill, complete}
use Rattle.balancing.specs.declared.unbalanced.Unbalanced.{Unbalanced}
use Rattle.balancing.specs.declared.unbalanced.Unbalanced.TheVariants.{Nothing, Only, Several}

abbrev pub summary : (ℕ → ℤ) → List ℕ → Unbalanced
summary sum [] = Nothing
summary sum (c ∷ []) = Only c (sum c)
summary sum (c ∷ d ∷ cs) = Several

-- one commodity more that is out of balance
abbrev pub one_more : ℕ → ℤ → Unbalanced → Unbalanced
one_more c z Nothing = Only c z
one_more c z (Only d y) = Several
one_more c z Several = Several

-- one commodity more, with its sum
abbrev pub and_commodity : ℕ → ℤ → Unbalanced → Unbalanced
and_commodity c z u = cond (is_zero z) u (one_more c z u)

-- a sum divided by -100, if that is whole and an amount
abbrev pub amount_for : ℤ → Option ℤ
amount_for sum = cond (is_whole sum && is_amount (blank_amount sum)) (Some (blank_amount sum)) None

-- the blank becomes an amount
abbrev pub filled_if : Option ℕ → List Entry → ℕ → Option ℤ → Result (List Entry) Refusal
filled_if own es c None = Err BlankCannotBeFilled
filled_if own es c (Some z) = cond (own_agrees own c) (Ok (fill z c es)) (Err BlankCannotBeFilled)

-- a draft with a blank
abbrev pub with_blank : Option ℕ → List Entry → Unbalanced → Result (List Entry) Refusal
with_blank own es Nothing = Err BlankCannotBeFilled
with_blank own es (Only c sum) = filled_if own es c (amount_for sum)
with_blank own es Several = Err BlankCannotBeFilled

-- the first of 25 and 26 that a draft meets, or its entries with the blank filled
abbrev pub balanced : List Posting → Option ℕ → List Entry → Result (List Entry) Refusal
balanced ps own es = unless (first_met (balancing_tests ps own es)) (complete es)

-- the entries after it: refused, they stay as they are
abbrev pub entries_after : List Posting → Option ℕ → List Entry → List Entry
entries_after ps own es = if_ok (balanced ps own es) (complete es) es
