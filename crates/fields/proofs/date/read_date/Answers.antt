use Rattle.std.proofs.Common.{◌≡◌, rules}
use Rattle.fields.specs.Dates.{date_at}
use Rattle.fields.specs.Results.{map_ok}
use Rattle.values.specs.declared.date.Date.{Date}
use Rattle.fields.proofs.Days.{date_exactly}
use Rattle.fields.proofs.date.read_date.Goals as goal

pub returns : goal.returns
unfolding date_at
returns c =
    let v : map_ok (λ (d : Date). d.number) c.ok_or.result ≡ date_at c.args.field.text.now c.args.field.place = search rules in
    record { value = v; exactly = date_exactly _ _ _ v }
