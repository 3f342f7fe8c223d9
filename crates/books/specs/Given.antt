-- A call of the code, without the addresses of its names.
use Rattle.std.specs.Option.{option_map}
use Rattle.books.specs.declared.call.GivenCost.{GivenCost}
use Rattle.books.specs.declared.call.GivenBraces.{GivenBraces}
use Rattle.books.specs.declared.call.GivenAmount.{GivenAmount}
use Rattle.books.specs.declared.call.Call as code
use Rattle.books.specs.declared.call.Call.TheVariants.{Declare, Open, Assert, Close, Begin, Post, Settle, Tear, WriteHeader}
use Rattle.books.specs.Calls.{Call, declaring, opening, asserting, closing, beginning, posting, settling, tearing, writing_header, CostGiven, BracesGiven, AmountGiven}

abbrev pub given_cost : GivenCost → CostGiven
given_cost cost = record { number = cost.number; commodity = cost.commodity.now }

abbrev pub given_braces : GivenBraces → BracesGiven
given_braces b = record { cost = option_map given_cost b.cost; date = b.date }

abbrev pub given_amount : GivenAmount → AmountGiven
given_amount x = record { number = x.number; commodity = x.commodity.now; braces = option_map given_braces x.braces }

abbrev pub given_call : code.Call → Call
given_call (Declare source date name) = declaring source date name.now
given_call (Open source date name own) = opening source date name.now (option_map (λ c. c.now) own)
given_call (Assert source date account amount commodity) = asserting source date account.now amount commodity.now
given_call (Close source date account) = closing source date account.now
given_call (Begin source date flag) = beginning source date flag
given_call (Post slip source account amount) = posting slip source account.now (option_map given_amount amount)
given_call (Settle slip lent) = settling slip lent
given_call (Tear slip) = tearing slip
given_call (WriteHeader lent) = writing_header lent
