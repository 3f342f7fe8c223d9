use Rattle.std.proofs.Common.{ℕ, ◌&&◌, List, nat_lt, ◌∙◌, rules, tests}
use Rattle.std.proofs.lemmas.Iterator.Splits.{YieldsList-from_slice_split}
use Rattle.std.proofs.lemmas.Iterator.Search.{all_from_yields_List}
use Rattle.std.proofs.lemmas.Iterator.Consumers.{YieldsList-from_enumerate, YieldsList-at}
use Rattle.values.specs.Names.{split_at, is_part}
use Rattle.values.proofs.Numbered.{all_numbered}
use Rattle.values.proofs.names.are_parts.Goals as goal

pub returns : goal.returns
returns c =
    let xs = c.args.text.now in
    let parts = YieldsList-from_slice_split _ _ xs c.split.ensures.rest c.split.ensures.done c.split.ensures.closure (λ x b q k. search (rules, tests)) in
    all_from_yields_List (λ (p : ℕ × List ℕ). nat_lt p.0 c.args.most && is_part p.1) _ _ c.all.result c.all.ensures.ran
    (YieldsList-from_enumerate (YieldsList-at c.enumerate.ensures.source parts) c.enumerate.ensures.count)
    (λ x b q k. search (rules, tests))
    ∙ all_numbered c.args.most (split_at 58 xs)
