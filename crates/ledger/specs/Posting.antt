-- What a posting of an amount comes to, once its names are numbers.
use Rattle.std.specs.Prelude.{ℕ, ℤ, Some, None, Option, length, ◌<◌}
use Rattle.lots.specs.declared.rows.Cost.{Cost}
use Rattle.booking.specs.Limits.{most_postings}
use Rattle.booking.specs.declared.posting.PostingKind.{PostingKind}
use Rattle.booking.specs.declared.posting.PostingKind.TheVariants.{Plain}
use Rattle.books.specs.States.{State}
use Rattle.books.specs.Refusals.{drafted}
use Rattle.books.specs.Changes.{kind_with_braces}

-- of the braces only the lot date is left
abbrev pub kind_given : ℤ → ℕ → Option (Option ℕ) → Option Cost → PostingKind
kind_given number commodity None cost = Plain number commodity
kind_given number commodity (Some date) cost = kind_with_braces number commodity cost date

-- the draft under way, if there is one, has a place left
abbrev pub HasPlace : State → Type 0
HasPlace s = length (drafted s.draft) < most_postings
