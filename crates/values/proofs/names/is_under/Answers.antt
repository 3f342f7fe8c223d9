use Rattle.std.proofs.Common.{◌≡◌, arith}
use Rattle.std.proofs.lemmas.Bool.Decides.{Decides-at}
use Rattle.std.proofs.lemmas.Grind.{common_steps}
use Rattle.values.specs.Names.{lies_under}
use Rattle.values.proofs.Under.{under_decides}
use Rattle.values.proofs.names.is_under.Goals as goal

pub returns-clause-exactly : goal.returns-clause-exactly
returns-clause-exactly c =
    let e : c.is_some_and.result ≡ lies_under c.args.account.now c.args.above.now = grind (arith, common_steps) in
    Decides-at _ _ e (under_decides _ _)
