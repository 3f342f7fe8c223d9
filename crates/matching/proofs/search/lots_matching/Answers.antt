use Rattle.std.proofs.Common.{◌∙◌, rules, tests}
use Rattle.std.proofs.lemmas.Iterator.{YieldsList-from_slice}
use Rattle.std.proofs.lemmas.Iterator.Consumers.{YieldsList-from_filter, count_from_yields_List}
use Rattle.matching.specs.Matching.{matches}
use Rattle.matching.proofs.Sums.{lots_kept}
use Rattle.matching.proofs.search.lots_matching.Goals as goal

pub returns : goal.returns
returns c =
    let M = matches c.args.wanted.now in
    count_from_yields_List c.filter.result c.count.result c.count.ensures.ran (YieldsList-from_filter _ M (YieldsList-from_slice c.args.rows.now (cc)) c.filter.ensures.closure (λ x r q k. search (rules, tests)))
    ∙ lots_kept M c.args.rows.now
