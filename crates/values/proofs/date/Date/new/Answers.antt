use Rattle.std.proofs.Common.{sym, ◌∙◌}
use Rattle.std.proofs.lemmas.Bool.Decides.{Decides-at}
use Rattle.values.proofs.Days.{day_decides}
use Rattle.values.proofs.date.Date.new.Goals as goal

pub returns-then-is_calendar_day-clause-exactly : goal.returns-then-is_calendar_day-clause-exactly
returns-then-is_calendar_day-clause-exactly c =
    Decides-at _ _ (sym c.if-is_calendar_day.true ∙ c.is_calendar_day.ensures) (day_decides c.args.number)
