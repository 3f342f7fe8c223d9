use Rattle.std.proofs.Common.{ℕ, List, rules}
use Rattle.std.specs.Str.{bytes_eq}
use borrow.Author.Tests.{tests}
use Rattle.chart.proofs.Finding.{number_found}
use Rattle.chart.proofs.table.Chart.commodity.Goals as goal

pub returns-clause-number : goal.returns-clause-number
returns-clause-number c = number_found (λ (x : List ℕ). bytes_eq x c.args.name.now) c.args.self.now.commodities c.position.ensures.ran (cc) (λ x b q k. search (rules, tests)) (search rules)
