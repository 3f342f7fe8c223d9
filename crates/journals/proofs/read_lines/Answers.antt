use Rattle.std.proofs.Common.{◌≡◌, false, rules}
use Rattle.lines.specs.Lines.{lines_of}
use Rattle.reader.specs.Readings.{is_done}
use Rattle.journals.proofs.UnderWay.{started, stepped}
use Rattle.journals.proofs.read_lines.Goals as goal

pub loop-reader-init : goal.loop-reader-init
loop-reader-init g c = started g.P.Policy.order c.args.ledger.now c.args.journal.now c.args.book.now c.args.answers.now c.requires.new c.requires.few

pub loop-reader-preserved : goal.loop-reader-preserved
loop-reader-preserved g c =
    let a = c.args in
    let l = c.loop-reader in
    let e = c.step-back.ensures in
    let more : is_done l.reader.phase (lines_of l.reader.rest.now) ≡ false = search rules in
    stepped g.P.Policy.order a.ledger.now a.journal.now a.book.now a.answers.now l.invariant l.auto.book more e.phase e.outcome e.ledger e.book e.lines e.number c.place-count.ensures.placed c.place-count.ensures.count e.slip e.few (e.fewer more)
