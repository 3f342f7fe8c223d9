use Rattle.std.proofs.Common.{◌≡◌, ◌<◌, rules}
use Rattle.std.specs.Option.{option_map}
use Rattle.fields.specs.Dates.{day_of}
use Rattle.values.specs.declared.date.Date.{Date}
use Rattle.fields.proofs.Days.{day_made}
use Rattle.fields.proofs.date.read_day.Goals as goal

pub returns : goal.returns
returns c =
    let m : c.in_ok-month.month < 100 = search rules in
    let d : c.in_ok-day.day < 100 = search rules in
    let e : option_map (λ (x : Date). x.number) c.new.result ≡ day_of c.in_ok-year.year c.in_ok-month.month c.in_ok-day.day =
    day_made c.new.result _ _ _ m d c.new.ensures.value in
    rw e (search rules)
