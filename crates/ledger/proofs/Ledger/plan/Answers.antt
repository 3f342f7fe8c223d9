use Rattle.std.proofs.Common.{◌+◌, List, Ok, ap, ◌∙◌}
use Rattle.stock.specs.Tables.{Table}
use Rattle.booking.specs.declared.entry.Entry.{Entry}
use Rattle.ledger.specs.Settling.{weighed_draft, plan}
use Rattle.books.specs.Recording.{transaction_of}
use Rattle.books.specs.States.{State}
use Rattle.ledger.proofs.Weighing.{err_stays, same_state}
use Rattle.ledger.proofs.Planning.{booked_there, lots_refused, draft_refused, planned_as}
use Rattle.ledger.proofs.Ledger.plan.Goals as goal

pub returns-in_err-book-clause-planned : goal.returns-in_err-book-clause-planned
returns-in_err-book-clause-planned g c =
    let a = c.args in
    let booked = booked_there g.P.Policy.order a.draft.now.date a.draft.now.postings c.self.view_is c.lots.ensures c.in_err-book.ensures.defined in
    err_stays _ _ c.from_residual.ensures.1 (lots_refused (g.P.Policy.order a.self.now.policy) a.self.now.state a.lent a.draft.now booked)

pub returns-in_err-reported-clause-planned : goal.returns-in_err-reported-clause-planned
returns-in_err-reported-clause-planned g c =
    let a = c.args in
    let s = a.self.now.state in
    let booked = booked_there g.P.Policy.order a.draft.now.date a.draft.now.postings c.self.view_is c.lots.ensures c.in_ok-book.ensures.defined in
    let weighed = c.weigh-weighed.ensures.weighed ∙ ap (λ (b : Table × List Entry). weighed_draft s a.lent a.draft.now b.1) c.booked.view_is in
    err_stays _ _ c.from_residual-in_err-reported.ensures.1 (draft_refused (g.P.Policy.order a.self.now.policy) s a.lent a.draft.now c.weigh-weighed.result _ booked weighed c.in_err-reported.ensures)

pub returns-clause-planned : goal.returns-clause-planned
returns-clause-planned g c =
    let a = c.args in
    let s = a.self.now.state in
    let booked = booked_there g.P.Policy.order a.draft.now.date a.draft.now.postings c.self.view_is c.lots.ensures c.in_ok-book.ensures.defined in
    let weighed = c.weigh-weighed.ensures.weighed ∙ ap (λ (b : Table × List Entry). weighed_draft s a.lent a.draft.now b.1) c.booked.view_is in
    ap (λ (t : Table). Ok (plan (transaction_of (c.self.inside.transactions + 1) a.draft.now) (t, c.weigh-weighed.new.entries))) (ap (λ (b : Table × List Entry). b.0) c.booked.view_is)
    ∙ planned_as (g.P.Policy.order a.self.now.policy) s a.lent a.draft.now c.weigh-weighed.result _ (ap (λ (s : State). transaction_of (s.transactions + 1) a.draft.now) (same_state c.self.view_is)) booked weighed c.in_ok-reported.ensures
