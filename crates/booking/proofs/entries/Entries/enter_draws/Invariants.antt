use Rattle.std.proofs.Common.{◌≡◌, ◌++◌, take}
use Rattle.booking.specs.Postings.{draw_entries}
use Rattle.booking.proofs.entries.Entries.enter_draws.Given as goal

abbrev pub invariant-loop-draw : goal.invariant-loop-draw
invariant-loop-draw l = l.self ≡ l.initial.self ++ draw_entries l.line (take l.draw-index l.draws)
