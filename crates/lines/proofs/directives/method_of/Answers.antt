use Rattle.std.proofs.Common.{◌≡◌, codes, arith, rules}
use Rattle.std.proofs.lemmas.Slice.Eq.{text_from_reads}
use Rattle.lines.proofs.directives.method_of.Goals as goal

pub returns-in-STRICT : goal.returns-in-STRICT
returns-in-STRICT c =
    let e : c.args.name.now ≡ codes "STRICT" = text_from_reads _ _ (omega arith) (search rules) in rw e
