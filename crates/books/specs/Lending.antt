-- How much of a record is lent to a call.
use Rattle.std.specs.Prelude.{ℕ, ◌≤◌, min}
use Rattle.books.specs.Calls.{Call, declaring, opening, asserting, closing, beginning, posting, settling, tearing, writing_header}

-- a call is lent no more bytes than the record has
abbrev pub LentWithin : ℕ → Call → Type 0
LentWithin size (declaring source date name) = Unit {0}
LentWithin size (opening source date name own) = Unit {0}
LentWithin size (asserting source date account amount commodity) = Unit {0}
LentWithin size (closing source date account) = Unit {0}
LentWithin size (beginning source date flag) = Unit {0}
LentWithin size (posting slip source account amount) = Unit {0}
LentWithin size (settling slip lent) = lent ≤ size
LentWithin size (tearing slip) = Unit {0}
LentWithin size (writing_header lent) = lent ≤ size

-- the same call, lent no more than a record of this size has
abbrev pub lend_within : ℕ → Call → Call
lend_within size (declaring source date name) = declaring source date name
lend_within size (opening source date name own) = opening source date name own
lend_within size (asserting source date account amount commodity) = asserting source date account amount commodity
lend_within size (closing source date account) = closing source date account
lend_within size (beginning source date flag) = beginning source date flag
lend_within size (posting slip source account amount) = posting slip source account amount
lend_within size (settling slip lent) = settling slip (min lent size)
lend_within size (tearing slip) = tearing slip
lend_within size (writing_header lent) = writing_header (min lent size)
