-- What a host may rely on: a slip that was just handed out is the draft's, and its draft can be torn.
use Rattle.std.proofs.Common.{◌≡◌, ℕ, false, List, Some, None, Option, refl, arith}
use Rattle.std.proofs.lemmas.Bool.Decides.{nat_tests}
use Rattle.std.proofs.lemmas.Grind.{common_steps}
use Rattle.refusal.specs.declared.Fault.{Fault}
use Rattle.values.specs.declared.flag.Flag.{Flag}
use Rattle.lots.specs.Orders.{Order}
use Rattle.books.specs.declared.outcome.Outcome.TheVariants.{Begun, Done}
use Rattle.books.specs.States.{State}
use Rattle.books.specs.Calls.{beginning, posting, settling, tearing, AmountGiven}
use Rattle.books.specs.Conditions.{no_such_draft}
use Rattle.books.specs.Slips.{HoldsSlip}
use Rattle.books.specs.Refusals.{refusal}
use Rattle.books.specs.Changes.{with_draft}
use Rattle.books.specs.Steps.{answered, step}

has_draft : (s : State) (slip : ℕ) → HoldsSlip s slip → no_such_draft s slip ≡ false
has_draft s slip held = rw held.under_way (grind (arith, nat_tests))

-- such a slip tears its draft
pub can_tear : (o : Order) (s : State) (slip : ℕ) → HoldsSlip s slip → step o s (tearing slip) ≡ (Done, with_draft s None)
can_tear o s slip held = rw (has_draft s slip held) refl

-- a beginning that is accepted hands one out
pub begun_holds : (o : Order) (s : State) (source date : ℕ) (flag : Flag) (slip : ℕ) → (step o s (beginning source date flag)).0 ≡ Begun slip → HoldsSlip (step o s (beginning source date flag)).1 slip
begun_holds o s source date flag slip e = by (refusal o s (beginning source date flag)) e
  where
    by : (r : Option Fault) → (answered o s (beginning source date flag) r).0 ≡ Begun slip → HoldsSlip (answered o s (beginning source date flag) r).1 slip
    by None e = record { under_way = refl; number = cc }
    by (Some f) e = cc

-- posting keeps it, accepted or refused
pub posted_holds : (o : Order) (s : State) (slip other source : ℕ) (account : List ℕ) (amount : Option AmountGiven) → HoldsSlip s slip → HoldsSlip (step o s (posting other source account amount)).1 slip
posted_holds o s slip other source account amount held = by (refusal o s (posting other source account amount))
  where
    by : (r : Option Fault) → HoldsSlip (answered o s (posting other source account amount) r).1 slip
    by None = record { under_way = grind (arith, common_steps, held.under_way); number = held.number }
    by (Some f) = held

-- a settling that is refused gives it back
pub refused_holds : (o : Order) (s : State) (slip lent : ℕ) (f : Fault) → HoldsSlip s slip → refusal o s (settling slip lent) ≡ Some f → HoldsSlip (step o s (settling slip lent)).1 slip
refused_holds o s slip lent f held e = rw e held
