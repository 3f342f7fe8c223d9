use Rattle.std.proofs.Common.{◌≡◌, codes, arith, rules}
use Rattle.std.proofs.lemmas.Slice.Eq.{text_from_reads}
use Rattle.lines.proofs.directives.keyword_of.Goals as goal

pub returns-in-commodity : goal.returns-in-commodity
returns-in-commodity c =
    let e : c.args.word.now ≡ codes "commodity" = text_from_reads _ _ (omega arith) (search rules) in rw e

pub returns-in-balance : goal.returns-in-balance
returns-in-balance c =
    let e : c.args.word.now ≡ codes "balance" = text_from_reads _ _ (omega arith) (search rules) in rw e
