-- Worked cases, each with what the definitions give and what was worked out by hand. Assumes nothing.
use Rattle.std.specs.Prelude.{◌≡◌, ℕ, List, [], ◌∷◌, map, ℤ, pos, negsuc, neg_ℤ, Some, None, Ok, Err, codes, Result}
use Rattle.refusal.specs.Table.{number_of}
use Rattle.refusal.specs.declared.Refusal.{Refusal}
use Rattle.fields.specs.Dates.{date_at}
use Rattle.fields.specs.Numbers.{number_at}
use Rattle.lines.specs.Faults.{fault_on}
use Rattle.lines.specs.declared.fault.LineFault.{LineFault}
use Rattle.lines.specs.declared.fault.LineFault.TheVariants as fault
use Rattle.lots.specs.Orders.{Order, strict, fifo, lifo, whole_lot}
use Rattle.lots.specs.declared.rows.Cost.{Cost}
use Rattle.lots.specs.declared.rows.Key.{Key}
use Rattle.matching.specs.declared.wanted.Draw.{Draw}
use Rattle.matching.specs.declared.wanted.Wanted.{Wanted}
use Rattle.stock.specs.Tables.{Table, no_lots, purchased, reduced}
use Rattle.books.specs.declared.outcome.Outcome.{Outcome}
use Rattle.books.specs.declared.outcome.Outcome.TheVariants.{Settled, Refused}
use Rattle.books.specs.States.{empty_ledger}
use Rattle.books.specs.Calls.{Call}
use Rattle.books.specs.Steps.{outcomes}
use Rattle.law.specs.Worked.{plain, against}
use Rattle.weights.specs.Weights.{plain_weight, purchase_weight, draws_weigh}

-- a case comes to a number (a date's, hundredths, ten-thousandths of a weight or a serial), or to the number of a refusal
pub data Answer : Type 0 where
  value : ℤ → Answer
  refused : ℕ → Answer

abbrev pub answer : {A E : Type 0} → (A → ℤ) → (E → Refusal) → Result A E → Answer
answer number refusal (Ok x) = value (number x)
answer number refusal (Err e) = refused (number_of (refusal e))

-- texts

abbrev pub of_line : LineFault → Refusal
of_line f = (fault_on 1 f).refusal

abbrev pub date_of : List ℕ → Answer
date_of text = answer pos (λ f. of_line (fault.Field f)) (date_at text 1)

abbrev pub amount_of : List ℕ → Answer
amount_of text = answer (λ z. z) (λ f. of_line (fault.Field f)) (number_at text 1)

-- lots: commodity 1 is EUR, commodity 2 the part, and account 1 the shelf

abbrev pub euro : ℕ → Cost
euro n = record { number = n; commodity = 1 }

abbrev pub part : ℕ → ℕ → Key
part cost date = record { account = 1; commodity = 2; cost = euro cost; date = date }

-- 10 at 24.50 of 2024-01-03, then 4 at 26.00 of 2024-02-01
abbrev pub two_lots : Table
two_lots = (purchased (part 2600 20240201) 400 (purchased (part 2450 20240103) 1000 no_lots).1).1

-- `{}` and `{26.00 EUR}`
abbrev pub any_lot : Wanted
any_lot = record { account = 1; commodity = 2; cost = None; date = None }

abbrev pub at_26 : Wanted
at_26 = record { account = 1; commodity = 2; cost = Some (euro 2600); date = None }

-- what a reduction of the two lots weighs in EUR
abbrev pub weighs : Order → Wanted → ℕ → Answer
weighs o w u = answer (draws_weigh 1) (λ r. r) (reduced o w u two_lots).0

-- the serial of the first lot that it draws from
abbrev pub first_serial : List Draw → ℤ
first_serial [] = pos 0
first_serial (d ∷ ds) = pos d.lot.serial

abbrev pub draws_first : Order → Wanted → ℕ → Answer
draws_first o w u = answer first_serial (λ r. r) (reduced o w u two_lots).0

-- settling

-- what the last of calls on a new ledger answers
abbrev pub last_answer : List Outcome → Answer
last_answer [] = refused 0
last_answer (Refused fault ∷ []) = refused (number_of fault.refusal)
last_answer (Settled number ∷ []) = value (pos number)
last_answer (x ∷ []) = value (pos 0)
last_answer (x ∷ y ∷ ys) = last_answer (y ∷ ys)

unfoldable pub settles : List Call → Answer
settles calls = last_answer (outcomes fifo empty_ledger calls)

abbrev pub cases : List (Answer × Answer)
cases =
    (date_of (codes "2024-02-29"), value (pos 20240229))
    ∷ (date_of (codes "2100-02-29"), refused 6)
    ∷ (amount_of (codes "999999.99"), value (pos 99999999))
    ∷ (amount_of (codes "-0.5"), value (negsuc 49))
    ∷ (amount_of (codes "1000000"), refused 9)
    ∷ (value (purchase_weight (part 333 20240103) 250).amount, value (pos 83250))
    ∷ (value (plain_weight (neg_ℤ (pos 833)) 1).amount, value (neg_ℤ (pos 83300)))
    ∷ (weighs fifo any_lot 1200, value (neg_ℤ (pos 2970000)))
    ∷ (weighs lifo any_lot 1200, value (neg_ℤ (pos 3000000)))
    ∷ (weighs (whole_lot fifo) any_lot 400, value (neg_ℤ (pos 1040000)))
    ∷ (weighs fifo any_lot 400, value (neg_ℤ (pos 980000)))
    ∷ (weighs strict any_lot 300, refused 23)
    ∷ (draws_first strict at_26 300, value (pos 2))
    ∷ (weighs strict at_26 300, value (neg_ℤ (pos 780000)))
    ∷ (weighs fifo any_lot 1500, refused 22)
    ∷ (weighs fifo any_lot 1400, value (neg_ℤ (pos 3490000)))
    ∷ (weighs strict any_lot 1400, refused 23)
    ∷ (settles (against (plain (neg_ℤ (pos 833)))), refused 25)
    ∷ (settles (against None), refused 26)
    ∷ []

-- each comes out as worked by hand
abbrev pub Worked : Type 0
Worked = map (λ c. c.0) cases ≡ map (λ c. c.1) cases
