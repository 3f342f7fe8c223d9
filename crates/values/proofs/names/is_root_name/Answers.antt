use Rattle.std.proofs.Common.{◌≡◌, codes, arith, rules}
use Rattle.std.proofs.lemmas.Slice.Eq.{text_from_reads}
use Rattle.values.proofs.names.is_root_name.Goals as goal

pub returns-in-Assets : goal.returns-in-Assets
returns-in-Assets c =
    let e : c.args.text.now ≡ codes "Assets" = text_from_reads _ _ (omega arith) (search rules) in rw e

pub returns-in-Assets-2 : goal.returns-in-Assets-2
returns-in-Assets-2 c =
    let e : c.args.text.now ≡ codes "Equity" = text_from_reads _ _ (omega arith) (search rules) in rw e

pub returns-in-Assets-3 : goal.returns-in-Assets-3
returns-in-Assets-3 c =
    let e : c.args.text.now ≡ codes "Income" = text_from_reads _ _ (omega arith) (search rules) in rw e

pub returns-in-Assets-4 : goal.returns-in-Assets-4
returns-in-Assets-4 c =
    let e : c.args.text.now ≡ codes "Expenses" = text_from_reads _ _ (omega arith) (search rules) in rw e

pub returns-in-Assets-5 : goal.returns-in-Assets-5
returns-in-Assets-5 c =
    let e : c.args.text.now ≡ codes "Liabilities" = text_from_reads _ _ (omega arith) (search rules) in rw e
