-- The call on a ledger that a line asks for. Its source is the line's number, and its arguments are what the line says.
use Rattle.std.specs.Prelude.{ℕ, Some, None, Option}
use Rattle.std.specs.Option.{option_map}
use Rattle.lines.specs.Said.{Said, booking_method, commodity, opening, closing, balance, transaction, posting, CostSaid, BracesSaid, empty, cost, date, cost_and_date, UnitsSaid}
use Rattle.books.specs.Calls.{Call, CostGiven, BracesGiven, AmountGiven}
use Rattle.books.specs.Calls as call

abbrev pub cost_given : CostSaid → CostGiven
cost_given c = record { number = c.hundredths; commodity = c.commodity.text }

abbrev pub braces_given : BracesSaid → BracesGiven
braces_given empty = record { cost = None; date = None }
braces_given (cost c) = record { cost = Some (cost_given c); date = None }
braces_given (date d) = record { cost = None; date = Some d }
braces_given (cost_and_date c d) = record { cost = Some (cost_given c); date = Some d }

abbrev pub units_given : UnitsSaid → AmountGiven
units_given u = record { number = u.hundredths; commodity = u.commodity.text; braces = option_map braces_given u.braces }

-- the option line asks for none; a posting is one to the draft of this slip
abbrev pub call_asked : ℕ → ℕ → Said → Option Call
call_asked line slip (booking_method m) = None
call_asked line slip (commodity d name) = Some (call.declaring line d name.text)
call_asked line slip (opening d account own) = Some (call.opening line d account.text (option_map (λ s. s.text) own))
call_asked line slip (closing d account) = Some (call.closing line d account.text)
call_asked line slip (balance d account n z c) = Some (call.asserting line d account.text z c.text)
call_asked line slip (transaction d flag text) = Some (call.beginning line d flag)
call_asked line slip (posting p) = Some (call.posting slip line p.account.text (option_map units_given p.units))
