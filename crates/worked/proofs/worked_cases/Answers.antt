use Rattle.std.proofs.Common.{◌≡◌, pos, neg_ℤ, None, refl}
use Rattle.values.specs.Names.{is_commodity_name, is_account_name}
use Rattle.fields.specs.Dates.{date_at}
use Rattle.fields.specs.Numbers.{number_at}
use Rattle.booking.specs.Weighing.{unbalanced_in}
use Rattle.law.specs.Worked.{plain, against}
use Rattle.worked.specs.Cases.{refused, settles}
use Rattle.worked.proofs.worked_cases.Goals as goal

-- each settling by itself, since both with the other cases take too many steps for one check
against_an_amount : settles (against (plain (neg_ℤ (pos 833)))) ≡ refused 25
unfolding settles is_commodity_name is_account_name unbalanced_in
against_an_amount = refl

against_a_blank : settles (against None) ≡ refused 26
unfolding settles is_commodity_name is_account_name unbalanced_in
against_a_blank = refl

pub returns : goal.returns
unfolding date_at number_at
returns c = record { worked = rw (against_an_amount, against_a_blank) refl; count = refl }
