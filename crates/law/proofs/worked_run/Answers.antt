use Rattle.std.proofs.Common.{refl}
use Rattle.values.specs.Names.{is_commodity_name, is_account_name}
use Rattle.record.specs.Layout.{header_after, record_after}
use Rattle.booking.specs.Weighing.{unbalanced_in}
use Rattle.law.proofs.worked_run.Goals as goal

pub returns : goal.returns
unfolding is_commodity_name is_account_name header_after record_after unbalanced_in
returns c = record {
  outcomes_are = refl;
  lots_are = refl;
  bank_has = refl;
  gains_are = refl;
  stock_holds = refl;
  entries_are = refl;
  branches_are = refl;
  branch_lots_are = refl;
  against_an_amount = refl;
  against_a_blank = refl;
  record_is = refl;
}
