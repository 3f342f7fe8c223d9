use Rattle.std.proofs.Common.{◌≡◌, Ok, Result, rules}
use Rattle.fields.specs.Quoted.{quoted_at}
use Rattle.fields.specs.Results.{map_ok}
use Rattle.fields.specs.Spots.{seen}
use Rattle.fields.specs.declared.fault.FieldFault.{FieldFault}
use Rattle.fields.specs.declared.field.Field.{Field}
use Rattle.fields.proofs.Quotations.{quotes_exactly, quotes_within}
use Rattle.fields.proofs.quoted.read_quoted.Goals as goal

pub returns-in_err-n : goal.returns-in_err-n
unfolding quoted_at
returns-in_err-n c =
    let v : map_ok seen c.from_residual.result ≡ quoted_at (seen c.args.rest) = search rules in
    let q = quotes_exactly _ _ v in
    record { value = v; exactly = q; within = quotes_within _ _ q }

pub returns : goal.returns
unfolding quoted_at
returns c =
    let r : Result Field FieldFault = Ok (record { text = c.front.result; place = c.args.rest.place }) in
    let v : map_ok seen r ≡ quoted_at (seen c.args.rest) = search rules in
    let q = quotes_exactly r _ v in
    record { value = v; exactly = q; within = quotes_within r _ q }
