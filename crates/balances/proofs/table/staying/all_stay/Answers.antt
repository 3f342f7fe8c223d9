use Rattle.std.proofs.Common.{◌≡◌, length, ◌∙◌, rules, tests}
use Rattle.std.proofs.lemmas.Iterator.Search.{all_from_yields_List}
use Rattle.std.proofs.lemmas.Iterator.{YieldsList-from_slice}
use Rattle.booking.specs.declared.entry.Entry.{Entry}
use Rattle.balances.specs.Sums.{kind_stays}
use Rattle.balances.proofs.Sums.{stay_within}
use Rattle.balances.proofs.table.staying.all_stay.Goals as goal

pub returns-clause-stay : goal.returns-clause-stay
returns-clause-stay c =
    let bs = c.args.places.now in
    let es = c.args.entries.now in
    let found = all_from_yields_List (λ (e : Entry). kind_stays bs es e.kind) _ _ c.all.result c.all.ensures.ran (YieldsList-from_slice es cc) (λ x b q k. search (rules, tests)) in
    let many : length bs ≡ 1024 = search rules in
    found ∙ stay_within bs es c.requires many
