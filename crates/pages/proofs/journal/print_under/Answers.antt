use Rattle.std.proofs.Common.{◌≡◌, ◌≤◌, List, length, take, ℕ, ap, refl, ◌∙◌, rules}
use Rattle.std.specs.String.{string_bytes}
use Rattle.books.specs.declared.outcome.Outcome.{Outcome}
use Rattle.books.specs.States.{State}
use Rattle.reader.specs.Readings.{books, journal_read}
use Rattle.pages.specs.Pages.{page_text}
use Rattle.pages.proofs.Placed.{taken}
use Rattle.pages.proofs.journal.print_under.Goals as goal

pub returns-clause-page : goal.returns-clause-page
returns-clause-page g c =
    let a = c.args in
    let o = g.P.Policy.order a.policy in
    let r = journal_read o (length a.book.now) a.journal.now in
    let e = c.book_journal-booked.ensures in
    let old = c.as_mut_slice-places.result.now in
    let room : length r.outcomes ≤ length old = search rules in
    let outcomes : take c.book_journal-booked.result.outcomes c.book_journal-booked.new.places ≡ r.outcomes = rw (e.count, e.outcomes) (taken r.outcomes old room) in
    let page : List Outcome → State → List ℕ = λ xs s. page_text s xs c.book_journal-booked.new.book a.with_lots in
    let state : c.book_journal-booked.result.ledger.state ≡ books o r = rw e.ledger refl in
    let written : string_bytes c.write_booked.new.out ≡ page (take c.book_journal-booked.result.outcomes c.book_journal-booked.new.places) c.book_journal-booked.result.ledger.state = search rules in
    written ∙ ap (λ xs. page xs c.book_journal-booked.result.ledger.state) outcomes ∙ ap (λ s. page r.outcomes s) state
