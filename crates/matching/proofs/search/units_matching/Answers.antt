use Rattle.std.proofs.Common.{◌∙◌, rules, tests}
use Rattle.std.specs.List.{filter}
use Rattle.std.proofs.lemmas.Iterator.{YieldsList-from_slice, YieldsList-from_map}
use Rattle.std.proofs.lemmas.Iterator.Consumers.{YieldsList-at, YieldsList-from_filter, sum_by_from_yields_List}
use Rattle.matching.specs.Matching.{matches}
use Rattle.matching.proofs.Sums.{units_kept}
use Rattle.matching.proofs.search.units_matching.Goals as goal

pub returns : goal.returns
returns c =
    let M = matches c.args.wanted.now in
    let rows = c.args.rows.now in
    sum_by_from_yields_List (λ r. r.units) (filter M rows) c.map.result c.sum.result c.sum.ensures.ran
    (YieldsList-from_map _ (λ r. r.units) (YieldsList-at c.map.ensures.source (YieldsList-from_filter _ M (YieldsList-from_slice rows (cc)) c.filter.ensures.closure (λ x r q k. search (rules, tests)))) c.map.ensures.closure (λ x r q k. search rules))
    ∙ units_kept M rows
