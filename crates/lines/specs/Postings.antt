-- Posting lines. Assumes nothing.
use Rattle.std.specs.Prelude.{ℕ, ◌+◌, cond, List, length, take, drop, Some, None, Ok, Err, Option, Result, ◌==◌, slice_index}
use Rattle.byte_text.specs.Classes.{before}
use Rattle.fields.specs.Numbers.{number_at}
use Rattle.fields.specs.Quoted.{ends_field}
use Rattle.fields.specs.Results.{and_then}
use Rattle.fields.specs.Spots.{commodity_at, account_at}
use Rattle.lines.specs.Braces.{inside}
use Rattle.lines.specs.Cuts.{field_at, field_end, missing}
use Rattle.lines.specs.Said.{BracesSaid, UnitsSaid, PostingSaid}
use Rattle.lines.specs.declared.fault.LineFault.{LineFault}
use Rattle.lines.specs.declared.fault.LineFault.TheVariants as fault

-- a field too many is refused at its place
unfoldable pub ends_at : List ℕ → ℕ → Result (Unit {0}) LineFault
ends_at line from = cond (missing (field_at line from)) (Ok tt) (Err (fault.Form (field_at line from).place))

-- braces at the place `brace` close behind n bytes: a space or the line's end follows, and then nothing
abbrev pub closed : List ℕ → ℕ → ℕ → Result (Option BracesSaid) LineFault
closed line brace n =
    cond (ends_field (drop (brace + n + 1) line))
    (and_then (λ f. f) (inside brace (record { text = take n (drop brace line); place = brace + 1 })) (λ b.
    and_then (λ f. f) (ends_at line (brace + n + 1)) (λ _. Ok (Some b))))
    (Err (fault.Braces brace))

-- braces run to the first closing brace behind them
unfoldable pub braces_from : List ℕ → ℕ → Result (Option BracesSaid) LineFault
braces_from line brace =
    let n = before 125 (drop brace line) in
    cond (brace + n == length line) (Err (fault.Braces brace)) (closed line brace n)

-- braces, or nothing, behind a posting's units
unfoldable pub braces_at : List ℕ → ℕ → Result (Option BracesSaid) LineFault
braces_at line from =
    let s = field_at line from in
    cond (missing s) (Ok None) (cond (slice_index s.text 0 == 123) (braces_from line s.place) (Err (fault.Form s.place)))

-- a number, a commodity and possibly braces, from the index `from` on
unfoldable pub units_at : List ℕ → ℕ → Result UnitsSaid LineFault
units_at line from =
    let number = field_at line from in
    let end = field_end line from in
    and_then fault.Field (number_at number.text number.place) (λ v.
    and_then fault.Field (commodity_at (field_at line end)) (λ c.
    and_then (λ f. f) (braces_at line (field_end line end)) (λ b.
    Ok (record { number = number; hundredths = v; commodity = c; braces = b }))))

-- an account, and units unless the posting is blank
unfoldable pub posting_of : List ℕ → Result PostingSaid LineFault
posting_of line =
    and_then fault.Field (account_at (field_at line 0)) (λ account.
    cond (missing (field_at line (field_end line 0)))
    (Ok (record { account = account; units = None }))
    (and_then (λ f. f) (units_at line (field_end line 0)) (λ u. Ok (record { account = account; units = Some u }))))
