use Rattle.std.proofs.Common.{◌≡◌, ℕ, Option, length, ◌∙◌, sym, ap, subst, rules, tests}
use Rattle.std.specs.Option.{option_map}
use Rattle.std.proofs.lemmas.Iterator.{YieldsList-from_slice}
use Rattle.std.proofs.lemmas.Iterator.Consumers.{YieldsList-at, YieldsList-from_enumerate, YieldsList-from_filter}
use Rattle.matching.specs.Matching.{matches}
use Rattle.matching.specs.Places.{Found}
use Rattle.matching.proofs.Finds.{earlier_of, found_by_chain}
use Rattle.matching.proofs.Reduces.{reduce_from_chain, same_place}
use Rattle.matching.proofs.wanted.Reduction.earliest.Goals as goal

pub returns : goal.returns
returns g c =
    let M = matches c.args.self.now.wanted in
    let lt = (g.P.Policy.order c.args.self.now.policy.now).before c.args.self.now.units in
    let keeps = g.met.P.Policy.keeps c.args.self.now.policy.now in
    let rows = c.args.rows.now in
    let found = reduce_from_chain _ (earlier_of M lt) c.reduce.result c.reduce.ensures.ran
    (YieldsList-from_filter _ (λ q. M q.1) (YieldsList-at c.filter.ensures.source (YieldsList-from_enumerate (YieldsList-at c.enumerate.ensures.source (YieldsList-from_slice rows (cc))) c.enumerate.ensures.count))
    c.filter.ensures.closure (λ x r q k. search (rules, tests)))
    (λ p x y q k. search (rules, tests)) in
    let place : c.map.result ≡ option_map (λ p. p.0) c.reduce.result = search rules in
    subst (λ (r : Option ℕ). Found M lt rows (length rows) r) (sym (place ∙ same_place (λ r. r.now) c.reduce.result ∙ ap (option_map (λ p. p.0)) found))
    (found_by_chain M lt (keeps.irreflexive c.args.self.now.units) (keeps.transitive c.args.self.now.units) rows)
