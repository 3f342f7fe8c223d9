use Rattle.std.proofs.Common.{◌&&◌, rules}
use Rattle.std.specs.Str.{bytes_eq}
use borrow.Author.Tests.{tests}
use Rattle.books.specs.declared.account.Account.{Account}
use Rattle.chart.proofs.Finding.{number_found}
use Rattle.chart.proofs.table.Chart.open_account.Goals as goal

pub returns-clause-number : goal.returns-clause-number
returns-clause-number c = number_found (λ (x : Account). x.is_open && bytes_eq x.name c.args.name.now) c.args.self.now.accounts c.position.ensures.ran (cc) (λ x b q k. search (rules, tests)) (search rules)
