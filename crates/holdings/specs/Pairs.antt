-- Plain balances and the table of lots as the books of a ledger's state.
use Rattle.std.specs.Prelude.{List, ℤ}
use Rattle.stock.specs.Tables.{Table}
use Rattle.books.specs.States.{Books}

abbrev pub books_of : List ℤ → Table → Books
books_of b t = record { balances = b; table = t }
