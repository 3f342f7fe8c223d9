-- Lines that start with a date, and the option line. Assumes nothing.
use Rattle.std.specs.Prelude.{ℕ, ◌+◌, Bool, cond, ◌&&◌, List, length, Some, None, Ok, Err, codes, Option, Result, ◌==◌, slice_index}
use Rattle.std.specs.Char.{is_ascii_digit}
use Rattle.std.specs.Str.{bytes_eq}
use Rattle.fields.specs.Dates.{date_at}
use Rattle.fields.specs.Numbers.{number_at}
use Rattle.fields.specs.Quoted.{quoted_at}
use Rattle.fields.specs.Results.{and_then}
use Rattle.fields.specs.Spots.{Spot, commodity_at, account_at}
use Rattle.lines.specs.Cuts.{rest_at, field_at, field_end, missing}
use Rattle.lines.specs.Postings.{ends_at}
use Rattle.lines.specs.Said.{Said, booking_method, commodity, opening, closing, balance, transaction}
use Rattle.lines.specs.declared.directives.Keyword.{Keyword}
use Rattle.lines.specs.declared.directives.Keyword.TheVariants.{Commodity, Open, Close, Balance, Transaction}
use Rattle.lines.specs.declared.directive.Method.{Method}
use Rattle.lines.specs.declared.directive.Method.TheVariants.{Strict, Fifo, Lifo}
use Rattle.values.specs.declared.flag.Flag.{Flag}
use Rattle.values.specs.declared.flag.Flag.TheVariants.{Complete, Incomplete}
use Rattle.lines.specs.declared.fault.LineFault.{LineFault}
use Rattle.lines.specs.declared.fault.LineFault.TheVariants as fault

-- NAME
unfoldable pub commodity_from : List ℕ → ℕ → ℕ → Result Said LineFault
commodity_from line date from =
    and_then fault.Field (commodity_at (field_at line from)) (λ name.
    and_then (λ f. f) (ends_at line (field_end line from)) (λ _. Ok (commodity date name)))

-- nothing, or the one commodity that the account keeps
unfoldable pub own_from : List ℕ → ℕ → Result (Option Spot) LineFault
own_from line from =
    cond (missing (field_at line from)) (Ok None)
    (and_then fault.Field (commodity_at (field_at line from)) (λ own.
    and_then (λ f. f) (ends_at line (field_end line from)) (λ _. Ok (Some own))))

-- ACCOUNT, or ACCOUNT NAME
unfoldable pub open_from : List ℕ → ℕ → ℕ → Result Said LineFault
open_from line date from =
    and_then fault.Field (account_at (field_at line from)) (λ account.
    and_then (λ f. f) (own_from line (field_end line from)) (λ own. Ok (opening date account own)))

-- ACCOUNT
unfoldable pub close_from : List ℕ → ℕ → ℕ → Result Said LineFault
close_from line date from =
    and_then fault.Field (account_at (field_at line from)) (λ account.
    and_then (λ f. f) (ends_at line (field_end line from)) (λ _. Ok (closing date account)))

-- ACCOUNT NUMBER NAME
unfoldable pub balance_from : List ℕ → ℕ → ℕ → Result Said LineFault
balance_from line date from =
    let number = field_at line (field_end line from) in
    let end = field_end line (field_end line from) in
    and_then fault.Field (account_at (field_at line from)) (λ account.
    and_then fault.Field (number_at number.text number.place) (λ v.
    and_then fault.Field (commodity_at (field_at line end)) (λ name.
    and_then (λ f. f) (ends_at line (field_end line end)) (λ _. Ok (balance date account number v name)))))

-- a quoted text and the index behind it
pub record QuotedSaid : Type 0 where
  pub text : Spot
  pub end : ℕ

unfoldable pub quoted_from : List ℕ → ℕ → Result QuotedSaid LineFault
quoted_from line from =
    and_then fault.Field (quoted_at (rest_at line from)) (λ text.
    Ok (record { text = text; end = (rest_at line from).place + length text.text + 1 }))

-- "TEXT"
unfoldable pub transaction_from : List ℕ → ℕ → Flag → ℕ → Result Said LineFault
transaction_from line date flag from =
    and_then (λ f. f) (quoted_from line from) (λ q.
    and_then (λ f. f) (ends_at line q.end) (λ _. Ok (transaction date flag q.text)))

-- the words that may stand behind a date
abbrev pub keyword_named : List ℕ → Option Keyword
keyword_named word =
    cond (bytes_eq word (codes "commodity")) (Some Commodity)
    (cond (bytes_eq word (codes "open")) (Some Open)
    (cond (bytes_eq word (codes "close")) (Some Close)
    (cond (bytes_eq word (codes "balance")) (Some Balance)
    (cond (bytes_eq word (codes "*")) (Some (Transaction Complete))
    (cond (bytes_eq word (codes "!")) (Some (Transaction Incomplete)) None)))))

-- each says which form the line has; any other word, at its place, has no form
abbrev pub by_keyword : List ℕ → ℕ → ℕ → ℕ → Option Keyword → Result Said LineFault
by_keyword line date place end (Some Commodity) = commodity_from line date end
by_keyword line date place end (Some Open) = open_from line date end
by_keyword line date place end (Some Close) = close_from line date end
by_keyword line date place end (Some Balance) = balance_from line date end
by_keyword line date place end (Some (Transaction flag)) = transaction_from line date flag end
by_keyword line date place end None = Err (fault.Form place)

abbrev pub by_word : List ℕ → ℕ → Spot → ℕ → Result Said LineFault
by_word line date word end = by_keyword line date word.place end (keyword_named word.text)

unfoldable pub dated_from : List ℕ → ℕ → ℕ → Result Said LineFault
dated_from line date from = by_word line date (field_at line from) (field_end line from)

-- DATE, a word, and what belongs to it
unfoldable pub dated_line : List ℕ → Result Said LineFault
dated_line line =
    and_then fault.Field (date_at (field_at line 0).text (field_at line 0).place) (λ date. dated_from line date (field_end line 0))

-- the methods that the option names
abbrev pub method_named : List ℕ → Option Method
method_named name =
    cond (bytes_eq name (codes "STRICT")) (Some Strict)
    (cond (bytes_eq name (codes "FIFO")) (Some Fifo) (cond (bytes_eq name (codes "LIFO")) (Some Lifo) None))

abbrev pub method_or : ℕ → Option Method → Result Method LineFault
method_or place None = Err (fault.Form place)
method_or place (Some m) = Ok m

-- "STRICT", "FIFO" or "LIFO"
unfoldable pub method_from : List ℕ → ℕ → Result Said LineFault
method_from line from =
    and_then (λ f. f) (quoted_from line from) (λ value.
    and_then (λ f. f) (method_or value.text.place (method_named value.text.text)) (λ m.
    and_then (λ f. f) (ends_at line value.end) (λ _. Ok (booking_method m))))

unfoldable pub is_method_option : List ℕ → Bool
is_method_option name = bytes_eq name (codes "booking_method")

-- "booking_method" and its value
unfoldable pub option_from : List ℕ → ℕ → Result Said LineFault
option_from line from =
    and_then (λ f. f) (quoted_from line from) (λ name.
    cond (is_method_option name.text.text) (method_from line name.end) (Err (fault.Form name.text.place)))

-- the option stands on line 1 alone; any other line that does not start with a digit has no known form
unfoldable pub directive_line : ℕ → List ℕ → Result Said LineFault
directive_line number line =
    cond (is_ascii_digit (slice_index line 0)) (dated_line line)
    (cond (number == 1 && bytes_eq (field_at line 0).text (codes "option")) (option_from line (field_end line 0)) (Err (fault.Form 1)))
