-- What the calls of a reading were answered, a tearing's answer among them.
use Rattle.std.specs.Prelude.{List}
use Rattle.lots.specs.Orders.{Order}
use Rattle.books.specs.declared.outcome.Outcome.{Outcome}
use Rattle.books.specs.States.{empty_ledger}
use Rattle.books.specs.Steps.{outcomes}
use Rattle.reader.specs.Readings.{Reading}

abbrev pub answers_of : Order → Reading → List Outcome
answers_of o r = outcomes o empty_ledger r.calls
