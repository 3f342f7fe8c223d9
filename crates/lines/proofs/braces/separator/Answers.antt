use Rattle.std.proofs.Common.{◌≡◌, true, false, drop, rules, tests}
use Rattle.std.proofs.lemmas.Iterator.{first_from_Range}
use Rattle.lines.specs.Braces.{separates}
use Rattle.lines.proofs.Separators.{separator_found}
use Rattle.lines.proofs.braces.separator.Goals as goal

pub returns : goal.returns
returns c =
    let f = first_from_Range _ _ _ c.find.result (λ k. separates (drop k c.args.text.now) 0 ≡ true) (λ k. separates (drop k c.args.text.now) 0 ≡ false) c.find.ensures.ran (λ x q k. search (rules, tests)) (λ x q k. search (rules, tests)) in
    separator_found c.find.result c.args.text.now f
