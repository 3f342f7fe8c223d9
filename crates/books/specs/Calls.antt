-- The calls on a ledger, with plain arguments: names as bytes, dates as their numbers, amounts and costs in hundredths.
use Rattle.std.specs.Prelude.{ℕ, List, ℤ, Option}
use Rattle.values.specs.declared.flag.Flag.{Flag}

-- a unit cost with the name of its commodity
pub record CostGiven : Type 0 where
  pub number : ℤ
  pub commodity : List ℕ

-- braces hold a cost, a lot date, both, or nothing
pub record BracesGiven : Type 0 where
  pub cost : Option CostGiven
  pub date : Option ℕ

-- what is posted where the posting is no blank
pub record AmountGiven : Type 0 where
  pub number : ℤ
  pub commodity : List ℕ
  pub braces : Option BracesGiven

-- Each directive call has its source number. A slip goes by its number, the record by how many of its bytes are lent.
-- A posting without an amount is a blank.
pub data Call : Type 0 where
  declaring : (source date : ℕ) (name : List ℕ) → Call
  opening : (source date : ℕ) (name : List ℕ) (own : Option (List ℕ)) → Call
  asserting : (source date : ℕ) (account : List ℕ) (amount : ℤ) (commodity : List ℕ) → Call
  closing : (source date : ℕ) (account : List ℕ) → Call
  beginning : (source date : ℕ) (flag : Flag) → Call
  posting : (slip source : ℕ) (account : List ℕ) (amount : Option AmountGiven) → Call
  settling : (slip lent : ℕ) → Call
  tearing : (slip : ℕ) → Call
  writing_header : (lent : ℕ) → Call
