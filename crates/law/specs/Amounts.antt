-- What entries bring to accounts and to lots, and what they draw.
use Rattle.std.specs.Prelude.{◌≡◌, ℕ, zero, suc, ◌+◌, ◌-◌, ◌*◌, ◌≤◌, cond, List, length, ℤ, pos, ◌+ℤ◌, ◌*ℤ◌, ◌==◌, slice_index_or}
use Rattle.lots.specs.declared.rows.Key.{Key}
use Rattle.lots.specs.declared.rows.LotRow.{LotRow}
use Rattle.lots.specs.Rows.{same_key}
use Rattle.matching.specs.Sums.{sum_of, sum_of_ints}
use Rattle.stock.specs.Tables.{units_of_key}
use Rattle.booking.specs.declared.entry.Entry.{Entry}
use Rattle.booking.specs.declared.entry.EntryKind.{EntryKind}
use Rattle.booking.specs.declared.entry.EntryKind.TheVariants.{PlainAmount, Unfilled, Filled, Bought, Drew}
use Rattle.booking.specs.Limits.{most_commodities, most_accounts}
use Rattle.books.specs.States.{Books}
use Rattle.books.specs.Holdings.{plain_balance}

-- an amount of account b and commodity d, as far as it is one of account a and commodity c
abbrev pub amount_if : ℕ → ℕ → ℕ → ℕ → ℤ → ℤ
amount_if a c b d z = cond (b == a) (cond (d == c) z (pos 0)) (pos 0)

-- plain amounts and filled blanks are settled in their account and commodity
abbrev pub amount_of_kind : ℕ → ℕ → EntryKind → ℤ
amount_of_kind a c (PlainAmount account amount commodity) = amount_if a c account commodity amount
amount_of_kind a c (Unfilled account) = pos 0
amount_of_kind a c (Filled account amount commodity) = amount_if a c account commodity amount
amount_of_kind a c (Bought key units serial) = pos 0
amount_of_kind a c (Drew draw) = pos 0

abbrev pub amount_settled : ℕ → ℕ → List Entry → ℤ
amount_settled a c es = sum_of_ints (λ e. amount_of_kind a c e.kind) es

-- a purchase brings its units to its key
abbrev pub brought_by_kind : Key → EntryKind → ℕ
brought_by_kind k (PlainAmount account amount commodity) = 0
brought_by_kind k (Unfilled account) = 0
brought_by_kind k (Filled account amount commodity) = 0
brought_by_kind k (Bought key units serial) = cond (same_key key k) units 0
brought_by_kind k (Drew draw) = 0

-- a draw counts for the key of its lot
abbrev pub drawn_by_kind : Key → EntryKind → ℕ
drawn_by_kind k (PlainAmount account amount commodity) = 0
drawn_by_kind k (Unfilled account) = 0
drawn_by_kind k (Filled account amount commodity) = 0
drawn_by_kind k (Bought key units serial) = 0
drawn_by_kind k (Drew draw) = cond (same_key draw.lot.key k) draw.units 0

abbrev pub units_brought : Key → List Entry → ℕ
units_brought k es = sum_of (λ e. brought_by_kind k e.kind) es

abbrev pub units_drawn : Key → List Entry → ℕ
units_drawn k es = sum_of (λ e. drawn_by_kind k e.kind) es

-- the plain balances, in a commodity, of the accounts 1 to n
abbrev pub balances_to : ℕ → ℕ → Books → ℤ
balances_to zero c b = pos 0
balances_to (suc n) c b = plain_balance b (suc n) c +ℤ balances_to n c b

-- units times cost of a lot, if it is costed in c
abbrev pub lot_at_cost : ℕ → LotRow → ℕ
lot_at_cost c r = cond (r.key.cost.commodity == c) (r.units * r.key.cost.number) 0

-- Books balance: of each commodity, 100 times the sum of all plain balances and the open lots at cost come to 0.
abbrev pub BooksBalance : Books → Type 0
BooksBalance b = (c : ℕ) → 1 ≤ c → c ≤ most_commodities → pos 100 *ℤ balances_to most_accounts c b +ℤ pos (sum_of (lot_at_cost c) b.table.lots) ≡ pos 0

-- A plain balance is what was settled in that account and commodity.
abbrev pub BalancesAreSettled : List Entry → Books → Type 0
BalancesAreSettled es b = (a c : ℕ) → 1 ≤ a → a ≤ most_accounts → 1 ≤ c → c ≤ most_commodities → plain_balance b a c ≡ amount_settled a c es

-- Of each key, the units held are the units brought less the units drawn.
abbrev pub UnitsAreSettled : List Entry → List LotRow → Type 0
UnitsAreSettled es lots = (k : Key) → units_of_key k lots + units_drawn k es ≡ units_brought k es

-- a serial is the number, counted from 1, of an opening of this key
pub record SerialOfOpening (opened : List Key) (serial : ℕ) (key : Key) : Type 0 where
  pub from_one : 1 ≤ serial
  pub given : serial ≤ length opened
  pub own_key : (d : Key) → slice_index_or opened (serial - 1) d ≡ key

-- the lot that an entry names bears such a serial
abbrev pub KindBearsSerial : List Key → EntryKind → Type 0
KindBearsSerial opened (PlainAmount account amount commodity) = Unit {0}
KindBearsSerial opened (Unfilled account) = Unit {0}
KindBearsSerial opened (Filled account amount commodity) = Unit {0}
KindBearsSerial opened (Bought key units serial) = SerialOfOpening opened serial key
KindBearsSerial opened (Drew draw) = SerialOfOpening opened draw.lot.serial draw.lot.key
