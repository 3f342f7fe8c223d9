use Rattle.std.proofs.Common.{◌≡◌, rules}
use Rattle.std.proofs.lemmas.Bool.Decides.{Decides-at}
use Rattle.values.specs.Names.{is_commodity_name}
use Rattle.values.proofs.Commodities.{commodity_decides}
use Rattle.values.proofs.names.is_commodity_name.Goals as goal

pub returns-then-is_ascii_uppercase-clause-exactly : goal.returns-then-is_ascii_uppercase-clause-exactly
unfolding is_commodity_name
returns-then-is_ascii_uppercase-clause-exactly c =
    let e : c.all_of.result ≡ is_commodity_name c.args.text.now = search rules in
    Decides-at _ _ e (commodity_decides _)
