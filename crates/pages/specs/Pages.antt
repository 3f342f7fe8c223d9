-- What is printed of a booked journal. 10 is a line's end, 32 a space, 35 the sign before a lot's serial.
use Rattle.std.specs.Prelude.{ℕ, ◌+◌, ◌-◌, Bool, cond, List, [], ◌∷◌, ◌++◌, codes, ℤ, pos, nat_eq, slice_index_or}
use Rattle.std.specs.List.{concat}
use Rattle.std.specs.Fmt.{decimal}
use Rattle.std.specs.Result.{result_unwrap_or}
use Rattle.refusal.specs.Printed.{fault_text}
use Rattle.lots.specs.declared.rows.LotRow.{LotRow}
use Rattle.booking.specs.Weighing.{is_zero}
use Rattle.books.specs.declared.account.Account.{Account}
use Rattle.books.specs.declared.outcome.Outcome.{Outcome}
use Rattle.books.specs.declared.outcome.Outcome.TheVariants.{Refused}
use Rattle.books.specs.Questions.{holding_of}
use Rattle.books.specs.Lookups.{account_at}
use Rattle.books.specs.States.{Names, State}
use Rattle.lots.specs.Orders.{Order, strict, fifo, lifo, whole_lot}
use Rattle.lines.specs.declared.directive.Method.{Method}
use Rattle.lines.specs.declared.directive.Method.TheVariants.{Strict, Fifo, Lifo}
use Rattle.reader.specs.Readings.{books, journal_read}
use Rattle.pages.specs.declared.rows.RowRead.{RowRead}
use Rattle.pages.specs.Rows.{rows_in, row_read}
use Rattle.listing.specs.Figures.{hundredths_text, day_text}

abbrev pub newline : List ℕ
newline = 10 ∷ []

-- the name of a number, counted from 1
unfoldable pub commodity_name : Names → ℕ → List ℕ
commodity_name names n = slice_index_or names.commodities (n - 1) []

unfoldable pub account_name : Names → ℕ → List ℕ
account_name names n = (account_at names n).name

-- units of a commodity
unfoldable pub units_text : Names → ℤ → ℕ → List ℕ
units_text names units commodity = hundredths_text units ++ 32 ∷ commodity_name names commodity

-- a refusal is printed, any other outcome is not
unfoldable pub refusal_line : Outcome → List ℕ
refusal_line (Refused f) = fault_text f ++ newline
refusal_line other = []

abbrev pub refusal_lines : List Outcome → List ℕ
refusal_lines [] = []
refusal_lines (x ∷ xs) = refusal_line x ++ refusal_lines xs

-- 42 stands for a complete transaction, 33 for an incomplete one
abbrev pub flag_sign : ℕ → ℕ
flag_sign flag = cond (nat_eq flag 0) 42 33

-- only rows of lots bear a serial
unfoldable pub serial_text : ℕ → List ℕ
serial_text serial = cond (nat_eq serial 0) [] (32 ∷ 35 ∷ decimal serial)

unfoldable pub row_head : Names → RowRead → List ℕ
row_head names r = decimal r.line ++ 32 ∷ day_text r.date ++ 32 ∷ flag_sign r.flag ∷ 32 ∷ account_name names r.account ++ (32 ∷ [])

unfoldable pub row_line : Names → RowRead → List ℕ
row_line names r = concat (row_head names r ∷ units_text names r.units r.commodity ∷ serial_text r.lot.serial ∷ newline ∷ [])

abbrev pub row_lines : Names → List (List ℕ) → List ℕ
row_lines names [] = []
row_lines names (r ∷ rs) = row_line names (row_read r) ++ row_lines names rs

unfoldable pub held_line : Names → ℕ → ℕ → ℤ → List ℕ
held_line names account commodity units = concat ((account_name names account ++ (32 ∷ [])) ∷ units_text names units commodity ∷ newline ∷ [])

-- nothing for a holding of 0
unfoldable pub holding_line : Names → ℕ → ℕ → ℤ → List ℕ
holding_line names account commodity units = cond (is_zero units) [] (held_line names account commodity units)

-- what the question of a holding answers
abbrev pub units_held : State → ℕ → ℕ → ℤ
units_held s account commodity = result_unwrap_or (holding_of s account commodity) (pos 0)

-- in commodities, the first of which has this number
abbrev pub account_lines : State → ℕ → ℕ → List (List ℕ) → List ℕ
account_lines s account commodity [] = []
account_lines s account commodity (c ∷ cs) = holding_line s.names account commodity (units_held s account commodity) ++ account_lines s account (commodity + 1) cs

-- of accounts, the first of which has this number
abbrev pub holding_lines : State → ℕ → List Account → List ℕ
holding_lines s account [] = []
holding_lines s account (a ∷ accounts) = account_lines s account 1 s.names.commodities ++ holding_lines s (account + 1) accounts

unfoldable pub lot_head : Names → LotRow → List ℕ
lot_head names r = 35 ∷ decimal r.serial ++ 32 ∷ account_name names r.key.account ++ (32 ∷ [])

unfoldable pub lot_end : LotRow → List ℕ
lot_end r = 32 ∷ day_text r.key.date ++ newline

unfoldable pub lot_line : Names → LotRow → List ℕ
lot_line names r =
    concat (lot_head names r ∷ units_text names (pos r.units) r.key.commodity ∷ (32 ∷ []) ∷ units_text names (pos r.key.cost.number) r.key.cost.commodity ∷ lot_end r ∷ [])

abbrev pub lot_lines : Names → List LotRow → List ℕ
lot_lines names [] = []
lot_lines names (r ∷ rs) = lot_line names r ++ lot_lines names rs

-- the open lots, if they are asked for
unfoldable pub lots_part : State → Bool → List ℕ
lots_part s with_lots = cond with_lots (codes "lots\n" ++ lot_lines s.names s.books.table.lots) []

-- the refusals as they were met, the rows of the record, the holdings, and the lots if they are asked for
unfoldable pub page_text : State → List Outcome → List ℕ → Bool → List ℕ
page_text s outcomes book with_lots =
    concat (refusal_lines outcomes ∷ codes "register\n" ∷ row_lines s.names (rows_in book) ∷ codes "balances\n" ∷ holding_lines s 1 s.names.accounts ∷ lots_part s with_lots ∷ [])

-- the page of a journal, booked in a record of so many bytes; the record is as booking left it
abbrev pub journal_page : Order → ℕ → List ℕ → List ℕ → Bool → List ℕ
journal_page o lent journal book with_lots =
    page_text (books o (journal_read o lent journal)) (journal_read o lent journal).outcomes book with_lots

-- the shop's policy: whole-lot over the journal's booking method
abbrev pub shop_order : Method → Order
shop_order Strict = whole_lot strict
shop_order Fifo = whole_lot fifo
shop_order Lifo = whole_lot lifo
