use Rattle.std.proofs.Common.{length}
use Rattle.lines.specs.Lines.{lines_of}
use Rattle.reader.specs.Readings.{journal_read}
use Rattle.law.proofs.Runs.{books_stand}
use Rattle.law.proofs.RunRecords.{record_stands}
use Rattle.journals.proofs.Lent.{journal_within}
use Rattle.journals.proofs.Few.{journal_few}
use Rattle.journals.proofs.Allowing.{accepted_exactly}
use Rattle.journals.proofs.book_journal.Goals as goal

pub returns-clause-few : goal.returns-clause-few
returns-clause-few g c = rw c.book_lines.ensures.count (journal_few (g.P.Policy.order c.args.policy) (length c.args.book.now) c.args.journal.now)

pub returns-clause-accepted_exactly : goal.returns-clause-accepted_exactly
returns-clause-accepted_exactly g c = accepted_exactly (g.P.Policy.order c.args.policy) (length c.args.book.now) (lines_of c.args.journal.now)

pub returns-clause-lawful : goal.returns-clause-lawful
returns-clause-lawful g c =
    let a = c.args in
    let o = g.P.Policy.order a.policy in
    rw c.book_lines.ensures.ledger (books_stand o (g.met.P.Policy.keeps a.policy) (journal_read o (length a.book.now) a.journal.now).calls)

pub returns-clause-recorded : goal.returns-clause-recorded
returns-clause-recorded g c =
    let a = c.args in
    let o = g.P.Policy.order a.policy in
    rw c.book_lines.ensures.book (record_stands o (g.met.P.Policy.keeps a.policy) (journal_read o (length a.book.now) a.journal.now).calls a.book.now (journal_within o (length a.book.now) a.journal.now))
