-- What a line says, without the addresses of its fields in memory. Assumes nothing.
use Rattle.std.specs.Prelude.{ℕ, ℤ, Option, Some, None}
use Rattle.std.specs.Option.{option_map}
use Rattle.fields.specs.Spots.{Spot, seen}
use Rattle.lines.specs.declared.directive.Method.{Method}
use Rattle.values.specs.declared.flag.Flag.{Flag}
use Rattle.lines.specs.declared.directive.Cost.{Cost}
use Rattle.lines.specs.declared.directive.Braces.{Braces}
use Rattle.lines.specs.declared.directive.Units.{Units}
use Rattle.lines.specs.declared.directive.Posting.{Posting}
use Rattle.lines.specs.declared.directive.Directive.{Directive}
use Rattle.lines.specs.declared.directive.Directive.TheVariants as directive

-- a cost: its number as written and in hundredths, and its commodity
pub record CostSaid : Type 0 where
  pub number : Spot
  pub hundredths : ℤ
  pub commodity : Spot

pub data BracesSaid : Type 0 where
  empty : BracesSaid
  cost : CostSaid → BracesSaid
  date : ℕ → BracesSaid
  cost_and_date : CostSaid → ℕ → BracesSaid

pub record UnitsSaid : Type 0 where
  pub number : Spot
  pub hundredths : ℤ
  pub commodity : Spot
  pub braces : Option BracesSaid

-- a posting; without units it is blank
pub record PostingSaid : Type 0 where
  pub account : Spot
  pub units : Option UnitsSaid

-- what a line that is not blank says; dates go by their numbers
pub data Said : Type 0 where
  booking_method : Method → Said
  commodity : (date : ℕ) (name : Spot) → Said
  opening : (date : ℕ) (account : Spot) (own : Option Spot) → Said
  closing : (date : ℕ) (account : Spot) → Said
  balance : (date : ℕ) (account number : Spot) (hundredths : ℤ) (commodity : Spot) → Said
  transaction : (date : ℕ) (flag : Flag) (text : Spot) → Said
  posting : PostingSaid → Said

abbrev pub cost_said : Cost → CostSaid
cost_said c = record { number = seen c.number; hundredths = c.amount.hundredths; commodity = seen c.commodity }

abbrev pub braces_of : Option CostSaid → Option ℕ → BracesSaid
braces_of None None = empty
braces_of (Some c) None = cost c
braces_of None (Some d) = date d
braces_of (Some c) (Some d) = cost_and_date c d

abbrev pub braces_said : Braces → BracesSaid
braces_said b = braces_of (option_map cost_said b.cost) (option_map (λ d. d.number) b.date)

abbrev pub units_said : Units → UnitsSaid
units_said u = record { number = seen u.number; hundredths = u.amount.hundredths; commodity = seen u.commodity; braces = option_map braces_said u.braces }

abbrev pub posting_said : Posting → PostingSaid
posting_said p = record { account = seen p.account; units = option_map units_said p.units }

abbrev pub said : Directive → Said
said (directive.BookingMethod m) = booking_method m
said (directive.Commodity d n) = commodity d.number (seen n)
said (directive.Open d a c) = opening d.number (seen a) (option_map seen c)
said (directive.Close d a) = closing d.number (seen a)
said (directive.Balance d a n v c) = balance d.number (seen a) (seen n) v.hundredths (seen c)
said (directive.Transaction d f t) = transaction d.number f (seen t)
said (directive.Posting p) = posting (posting_said p)
