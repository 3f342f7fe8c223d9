-- How what a line says is written: as a line of plain figures. Assumes nothing.
use Rattle.std.specs.Prelude.{ℕ, List, [], ◌++◌, Some, None, Option, codes}
use Rattle.std.specs.Option.{option_map}
use Rattle.lines.specs.Grammar.{flag_sign, method_name}
use Rattle.lines.specs.declared.directive.Cost.{Cost}
use Rattle.lines.specs.declared.directive.Braces.{Braces}
use Rattle.lines.specs.declared.directive.Units.{Units}
use Rattle.lines.specs.declared.directive.Posting.{Posting}
use Rattle.lines.specs.declared.directive.Directive.{Directive}
use Rattle.lines.specs.declared.directive.Directive.TheVariants as directive
use Rattle.listing.specs.declared.line.Quantity.{Quantity}
use Rattle.listing.specs.declared.line.CostSpec.{CostSpec}
use Rattle.listing.specs.declared.line.Position.{Position}
use Rattle.listing.specs.declared.line.Line.{Line}
use Rattle.listing.specs.declared.line.Line.TheVariants as line
use Rattle.listing.specs.Figures.{hundredths_text, day_text}

-- a part that need not be there, with what stands before it
abbrev pub if_there : {X : Type 0} → List ℕ → (X → List ℕ) → Option X → List ℕ
if_there before text None = []
if_there before text (Some x) = before ++ text x

abbrev pub quantity_text : Quantity → List ℕ
quantity_text q = hundredths_text q.hundredths ++ codes " " ++ q.commodity.now

-- a comma and a space stand between a cost and a date
abbrev pub braces_of : Option Quantity → Option ℕ → List ℕ
braces_of None None = codes "{}"
braces_of (Some c) None = codes "{" ++ quantity_text c ++ codes "}"
braces_of None (Some d) = codes "{" ++ day_text d ++ codes "}"
braces_of (Some c) (Some d) = codes "{" ++ (quantity_text c ++ (codes ", " ++ (day_text d ++ codes "}")))

abbrev pub cost_spec_text : CostSpec → List ℕ
cost_spec_text c = braces_of c.cost c.date

abbrev pub position_text : Position → List ℕ
position_text p = quantity_text p.units ++ if_there (codes " ") cost_spec_text p.cost

-- its kind and its fields
abbrev pub line_text : Line → List ℕ
line_text (line.BookingMethod m) = codes "option booking_method " ++ method_name m
line_text (line.Commodity d n) = codes "commodity " ++ day_text d ++ codes " " ++ n.now
line_text (line.Open d a c) = codes "open " ++ day_text d ++ codes " " ++ a.now ++ if_there (codes " ") (λ own. own.now) c
line_text (line.Close d a) = codes "close " ++ day_text d ++ codes " " ++ a.now
line_text (line.Balance d a b) = codes "balance " ++ day_text d ++ codes " " ++ a.now ++ codes " " ++ quantity_text b
line_text (line.Transaction d f t) = codes "transaction " ++ day_text d ++ codes " " ++ flag_sign f ++ codes " \"" ++ t.now ++ codes "\""
line_text (line.Posting a p) = codes "posting " ++ a.now ++ if_there (codes " ") position_text p

-- the line as which it is listed
abbrev pub quantity_of : Cost → Quantity
quantity_of c = record { hundredths = c.amount.hundredths; commodity = c.commodity.text }

abbrev pub cost_spec_of : Braces → CostSpec
cost_spec_of b = record { cost = option_map quantity_of b.cost; date = option_map (λ d. d.number) b.date }

abbrev pub position_of : Units → Position
position_of u = record { units = record { hundredths = u.amount.hundredths; commodity = u.commodity.text }; cost = option_map cost_spec_of u.braces }

abbrev pub posting_of : Posting → Line
posting_of p = line.Posting p.account.text (option_map position_of p.units)

abbrev pub line_of : Directive → Line
line_of (directive.BookingMethod m) = line.BookingMethod m
line_of (directive.Commodity d n) = line.Commodity d.number n.text
line_of (directive.Open d a c) = line.Open d.number a.text (option_map (λ own. own.text) c)
line_of (directive.Close d a) = line.Close d.number a.text
line_of (directive.Balance d a n v c) = line.Balance d.number a.text (record { hundredths = v.hundredths; commodity = c.text })
line_of (directive.Transaction d f t) = line.Transaction d.number f t.text
line_of (directive.Posting p) = posting_of p

-- and what is written
abbrev pub cost_text : Cost → List ℕ
cost_text c = quantity_text (quantity_of c)

abbrev pub braces_text : Braces → List ℕ
braces_text b = cost_spec_text (cost_spec_of b)

abbrev pub units_text : Units → List ℕ
units_text u = position_text (position_of u)

abbrev pub posting_text : Posting → List ℕ
posting_text p = line_text (posting_of p)

abbrev pub directive_text : Directive → List ℕ
directive_text d = line_text (line_of d)
