-- What the entries of a draft weigh, in ten-thousandths of each commodity, and the blank that balances them.
use Rattle.std.specs.Prelude.{ℕ, zero, suc, ◌/◌, ◌%◌, Bool, true, false, cond, not, ◌&&◌, ◌||◌, List, [], ◌∷◌, ℤ, pos, negsuc, neg_ℤ, Some, None, Option, ◌==◌, unsigned_abs}
use Rattle.std.specs.List.{list_any}
use Rattle.values.specs.Amounts.{is_amount}
use Rattle.matching.specs.Sums.{sum_of_ints}
use Rattle.weights.specs.Weights.{plain_weight, purchase_weight, draw_weight, weight_in}
use Rattle.booking.specs.Limits.{most_commodities}
use Rattle.booking.specs.declared.posting.Posting.{Posting}
use Rattle.booking.specs.declared.entry.Entry.{Entry}
use Rattle.booking.specs.declared.entry.EntryKind.{EntryKind}
use Rattle.booking.specs.declared.entry.EntryKind.TheVariants.{PlainAmount, Unfilled, Filled, Bought, Drew}

-- what an entry weighs in commodity c
abbrev pub kind_weight : ℕ → EntryKind → ℤ
kind_weight c (PlainAmount account amount commodity) = weight_in c (plain_weight amount commodity)
kind_weight c (Unfilled account) = pos 0
kind_weight c (Filled account amount commodity) = weight_in c (plain_weight amount commodity)
kind_weight c (Bought key units serial) = weight_in c (purchase_weight key units)
kind_weight c (Drew draw) = weight_in c (draw_weight draw)

-- each commodity's sum
abbrev pub weight_sum : List Entry → ℕ → ℤ
weight_sum es c = sum_of_ints (λ e. kind_weight c e.kind) es

abbrev pub is_zero : ℤ → Bool
is_zero (pos zero) = true
is_zero (pos (suc n)) = false
is_zero (negsuc n) = false

-- the commodities from 1 to n whose sum is not 0, the highest first
abbrev pub unbalanced : ℕ → (ℕ → ℤ) → List ℕ
unbalanced zero sum = []
unbalanced (suc n) sum = cond (is_zero (sum (suc n))) (unbalanced n sum) (suc n ∷ unbalanced n sum)

-- of all that there can be; it stays shut until it is unfolded, since written out it doubles with each commodity.
unfoldable pub unbalanced_in : List Entry → List ℕ
unbalanced_in es = unbalanced most_commodities (weight_sum es)

abbrev pub is_empty : {X : Type 0} → List X → Bool
is_empty [] = true
is_empty (x ∷ xs) = false

-- The blank.

abbrev pub is_unfilled : EntryKind → Bool
is_unfilled (PlainAmount account amount commodity) = false
is_unfilled (Unfilled account) = true
is_unfilled (Filled account amount commodity) = false
is_unfilled (Bought key units serial) = false
is_unfilled (Drew draw) = false

abbrev pub has_blank : List Entry → Bool
has_blank es = list_any (λ e. is_unfilled e.kind) es

-- a blank becomes an amount of a commodity; no other entry changes
abbrev pub filled_with : ℤ → ℕ → EntryKind → EntryKind
filled_with z c (PlainAmount account amount commodity) = PlainAmount account amount commodity
filled_with z c (Unfilled account) = Filled account z c
filled_with z c (Filled account amount commodity) = Filled account amount commodity
filled_with z c (Bought key units serial) = Bought key units serial
filled_with z c (Drew draw) = Drew draw

-- the first blank is filled
abbrev pub fill : ℤ → ℕ → List Entry → List Entry
fill z c [] = []
fill z c (e ∷ es) = cond (is_unfilled e.kind) (record { line = e.line; kind = filled_with z c e.kind } ∷ es) (e ∷ fill z c es)

-- the account of the first blank
abbrev pub account_of_blank : EntryKind → Option ℕ → Option ℕ
account_of_blank (PlainAmount account amount commodity) other = other
account_of_blank (Unfilled account) other = Some account
account_of_blank (Filled account amount commodity) other = other
account_of_blank (Bought key units serial) other = other
account_of_blank (Drew draw) other = other

abbrev pub blank_account : List Entry → Option ℕ
blank_account [] = None
blank_account (e ∷ es) = account_of_blank e.kind (blank_account es)

-- a sum divided by -100, without its fraction
abbrev pub blank_amount : ℤ → ℤ
blank_amount (pos n) = neg_ℤ (pos (n / 100))
blank_amount (negsuc n) = pos (suc n / 100)

abbrev pub is_whole : ℤ → Bool
is_whole sum = unsigned_abs sum % 100 == 0

-- the commodity is the own one of an account, or it has none
abbrev pub own_agrees : Option ℕ → ℕ → Bool
own_agrees None c = true
own_agrees (Some own) c = own == c

-- whether a blank can be filled where these commodities are out of balance: exactly one is,
-- its sum divided by -100 is whole and an amount, and it is the own commodity of the blank's account, if that has one
abbrev pub can_fill : Option ℕ → (ℕ → ℤ) → List ℕ → Bool
can_fill own sum [] = false
can_fill own sum (c ∷ []) = is_whole (sum c) && (is_amount (blank_amount (sum c)) && own_agrees own c)
can_fill own sum (c ∷ d ∷ cs) = false

abbrev pub filled_by : List ℕ → List Entry → List Entry
filled_by [] es = es
filled_by (c ∷ cs) es = fill (blank_amount (weight_sum es c)) c es

-- the entries with the blank filled
abbrev pub complete : List Entry → List Entry
complete es = filled_by (unbalanced_in es) es

-- 25: the draft has no posting, or it has no blank and the weights of some commodity do not sum to 0
abbrev pub not_balanced : List Posting → List Entry → Bool
not_balanced ps es = is_empty ps || (not (has_blank es) && not (is_empty (unbalanced_in es)))

-- 26: the draft has a blank that cannot be filled; `own` is the own commodity of the blank's account
abbrev pub blank_cannot_be_filled : Option ℕ → List Entry → Bool
blank_cannot_be_filled own es = has_blank es && not (can_fill own (weight_sum es) (unbalanced_in es))
