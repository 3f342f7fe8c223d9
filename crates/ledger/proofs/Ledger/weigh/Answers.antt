use Rattle.std.proofs.Common.{List, length, ap, ◌∙◌, arith}
use Rattle.booking.specs.declared.entry.Entry.{Entry}
use Rattle.booking.proofs.Filling.{length_complete}
use Rattle.books.specs.States.{State}
use Rattle.ledger.proofs.Weighing.{err_stays, same_state, passed_is, weighing_refused, weighing_passed, room_last, on_ok}
use Rattle.ledger.proofs.Ledger.weigh.Goals as goal

pub returns-in_err-weigh-clause-weighed : goal.returns-in_err-weigh-clause-weighed
returns-in_err-weigh-clause-weighed g c =
    let a = c.args in
    err_stays _ _ c.from_residual.ensures.1 (weighing_refused a.self.now.state a.lent a.draft.now a.entries.now _ c.as_slice.ensures.listed c.own_of_blank-own.ensures (ap (λ (s : State). s.books.balances) (same_state c.self.view_is)) c.in_err-weigh.ensures.weighed)

pub returns-clause-weighed : goal.returns-clause-weighed
returns-clause-weighed g c =
    let a = c.args in
    let s = a.self.now.state in
    let passed = weighing_passed s a.lent a.draft.now a.entries.now _ _ _ _ _ c.as_slice.ensures.listed c.own_of_blank-own.ensures (ap (λ (s : State). s.books.balances) (same_state c.self.view_is)) c.in_ok-weigh.ensures.weighed in
    let same = passed_is _ _ _ c.in_ok-weigh.ensures.weighed in
    let filled = ap (λ (es : List Entry). length es) same ∙ length_complete a.entries.now in
    rw same (room_last s a.lent a.draft.now a.entries.now _ c.room_for.result (omega (arith, filled, ap length c.as_slice-2.ensures.listed, ap (λ (s : State). s.rows) (same_state c.self.view_is))) c.room_for.ensures.answer passed)

pub returns-clause-entries : goal.returns-clause-entries
returns-clause-entries g c =
    let filled = ap (λ (es : List Entry). length es) (passed_is _ _ _ c.in_ok-weigh.ensures.weighed) ∙ length_complete c.args.entries.now in
    on_ok c.room_for.result filled
