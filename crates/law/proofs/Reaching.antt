-- Which posting settling reaches, and what it answers there.
use Rattle.std.proofs.Common.{◌≡◌, ℕ, ◌≤◌, ◌⊎◌, List, [], ◌∷◌, ◌++◌, Some, None, Option, sym, refl, ap, ◌∙◌, subst, inl, inr, ⊎_elim, arith}
use Rattle.std.proofs.lemmas.Bool.Decides.{nat_tests}
use Rattle.refusal.specs.declared.Refusal.{Refusal}
use Rattle.refusal.specs.declared.Fault.{Fault}
use Rattle.lots.specs.declared.rows.Cost.{Cost}
use Rattle.lots.specs.declared.rows.Key.{Key}
use Rattle.lots.specs.Orders.{Order, Keeps}
use Rattle.matching.specs.Matching.{matches, units_matching}
use Rattle.matching.specs.declared.wanted.Draw.{Draw}
use Rattle.matching.specs.Drawing.{draws_of, lots_after}
use Rattle.matching.specs.Drawn.{SerialsRise, Drawn}
use Rattle.matching.proofs.Drawing.{closed_form_is_drawn}
use Rattle.matching.proofs.Earliest.{unsettled_from, unsettled_to}
use Rattle.stock.specs.Tables.{Table}
use Rattle.booking.specs.declared.posting.Posting.{Posting}
use Rattle.booking.specs.declared.posting.PostingKind.{PostingKind}
use Rattle.booking.specs.declared.posting.PostingKind.TheVariants.{Purchase, Reduction}
use Rattle.booking.specs.Postings.{wanted_lots, table_after_posting, draw_entries, kind_refusal, posting_refusal}
use Rattle.booking.specs.Booking.{at_line, first_fault}
use Rattle.law.specs.Histories.{opened_by_kind}
use Rattle.law.specs.Reductions.{draws_among, KindDraws, DrawsByPolicy, AsksTooMany, IsUnsettled, Reaches}
use Rattle.law.proofs.Serials.{Sound, AllSome, kind_sound}
use Rattle.books.proofs.Tests.{refusal_number, fault_number}
use Rattle.std.proofs.lemmas.Option.{none-some}
use Rattle.std.specs.Option.{option_or}

-- the entries of draws are those draws
draws_back : (line : ℕ) (ds : List Draw) → draws_among (draw_entries line ds) ≡ ds
draws_back line [] = refl
draws_back line (d ∷ ds) = ap (λ (es : List Draw). d ∷ es) (draws_back line ds)

module _ (o : Order) (keeps : Keeps o) (day a : ℕ) (t : Table) where
  -- a purchase meets 21 or 24 alone
  not_bought : (units commodity : ℕ) (cost : Cost) (date : Option ℕ) (n : ℕ) → (21 ≡ n → ⊥) → (24 ≡ n → ⊥) → refusal_number (kind_refusal o day a t (Purchase units commodity cost date)) ≡ Some n → ⊥
  not_bought units commodity cost date n not_21 not_24 =
      λ (e : refusal_number (kind_refusal o day a t (Purchase units commodity cost date)) ≡ Some n). grind (arith, nat_tests)

  -- 22 exactly where a reduction asks for too many
  too_many_from : (kind : PostingKind) → refusal_number (kind_refusal o day a t kind) ≡ Some 22 → AsksTooMany a t kind
  too_many_from (Reduction u commodity cost date) e = grind (arith, nat_tests)
  too_many_from (Purchase units commodity cost date) e = absurd (not_bought units commodity cost date 22 (λ q. omega arith) (λ q. omega arith) e)
  too_many_from _ e = absurd (none-some 22 e)

  too_many_to : (kind : PostingKind) → AsksTooMany a t kind → refusal_number (kind_refusal o day a t kind) ≡ Some 22
  too_many_to (Reduction u commodity cost date) h = grind (arith, nat_tests)
  too_many_to _ h = absurd h

  -- 23 exactly where a reduction is covered and not settled
  unsettled_is_met : (kind : PostingKind) → refusal_number (kind_refusal o day a t kind) ≡ Some 23 → IsUnsettled o a t kind
  unsettled_is_met (Reduction u commodity cost date) e = unsettled_from o keeps (matches (wanted_lots a commodity cost date)) u t.lots (grind (arith, nat_tests)) (grind (arith, nat_tests))
  unsettled_is_met (Purchase units commodity cost date) e = absurd (not_bought units commodity cost date 23 (λ q. omega arith) (λ q. omega arith) e)
  unsettled_is_met _ e = absurd (none-some 23 e)

  unsettled_meets : (kind : PostingKind) → SerialsRise t.lots → IsUnsettled o a t kind → refusal_number (kind_refusal o day a t kind) ≡ Some 23
  unsettled_meets (Reduction u commodity cost date) ri h =
      let off = unsettled_to o keeps (matches (wanted_lots a commodity cost date)) u t.lots ri h in
      let covered = h.0 in
      grind (arith, nat_tests)
  unsettled_meets _ ri h = absurd h

  -- a reduction that meets nothing draws by the policy
  kind_draws : (line : ℕ) (kind : PostingKind) (opened : List Key) → Sound opened t → kind_refusal o day a t kind ≡ None → KindDraws o day line a t kind
  kind_draws line (Reduction u commodity cost date) opened s e =
      let M = matches (wanted_lots a commodity cost date) in
      let covered : u ≤ units_matching M t.lots = grind (arith, nat_tests) in
      subst (λ (ds : List Draw). Drawn M (o.before u) u t.lots (lots_after o (wanted_lots a commodity cost date) u t.lots) ds) (sym (draws_back line (draws_of o (wanted_lots a commodity cost date) u t.lots)))
      (closed_form_is_drawn M (o.before u) (keeps.irreflexive u) (keeps.transitive u) (keeps.exactly_one u) u t.lots s.rising s.some covered)
  kind_draws line _ opened s e = tt

pub first_none : (line : ℕ) (m : Option Refusal) (rest : Option Fault) → option_or (at_line line m) rest ≡ None → (m ≡ None) × (rest ≡ None)
first_none line None rest e = (refl, e)
first_none line (Some r) rest e = absurd (none-some _ (sym e))

-- a refusal of that number comes first
first_number : (line : ℕ) (m : Option Refusal) (rest : Option Fault) (n : ℕ) → refusal_number m ≡ Some n → fault_number (option_or (at_line line m) rest) ≡ Some n
first_number line None rest n e = absurd (none-some n e)
first_number line (Some r) rest n e = e

module _ (o : Order) (keeps : Keeps o) (day : ℕ) where
  pub draft_draws : (ps : List Posting) (t : Table) (opened : List Key) → AllSome ps → Sound opened t → first_fault o day t ps ≡ None → DrawsByPolicy o day t ps
  draft_draws [] t opened some s e = tt
  draft_draws (p ∷ ps) t opened some s e =
      let after = table_after_posting o day t p in
      let h = first_none p.line (posting_refusal o day t p) (first_fault o day after ps) e in
      (kind_draws o keeps day p.account t p.line p.kind opened s h.0, draft_draws ps after (opened ++ opened_by_kind day p.account t p.kind) some.1 (kind_sound o day p.account t p.kind opened some.0 s) h.1)

  module _ (P : ℕ → Table → PostingKind → Type 0) (n : ℕ)
      (to : (a : ℕ) (t : Table) (kind : PostingKind) → refusal_number (kind_refusal o day a t kind) ≡ Some n → P a t kind)
      (from : (a : ℕ) (t : Table) (kind : PostingKind) → SerialsRise t.lots → P a t kind → refusal_number (kind_refusal o day a t kind) ≡ Some n) where
    here_or_later : (p : Posting) (t : Table) (rest : Option Fault) (R : Type 0) → (fault_number rest ≡ Some n → R) → (m : Option Refusal) → posting_refusal o day t p ≡ m → fault_number (option_or (at_line p.line m) rest) ≡ Some n
        → P p.account t p.kind ⊎ ((posting_refusal o day t p ≡ None) × R)
    here_or_later p t rest R later None e q = inr (e, later q)
    here_or_later p t rest R later (Some r) e q = inl (to p.account t p.kind (ap refusal_number e ∙ q))

    pub reached : (ps : List Posting) (t : Table) → fault_number (first_fault o day t ps) ≡ Some n → Reaches o day P t ps
    reached [] t e = absurd (none-some n e)
    reached (p ∷ ps) t e =
        let after = table_after_posting o day t p in
        here_or_later p t (first_fault o day after ps) (Reaches o day P after ps) (reached ps after) (posting_refusal o day t p) refl e

    pub reaching : (ps : List Posting) (t : Table) (opened : List Key) → AllSome ps → Sound opened t → Reaches o day P t ps → fault_number (first_fault o day t ps) ≡ Some n
    reaching [] t opened some s r = absurd r
    reaching (p ∷ ps) t opened some s r =
        let after = table_after_posting o day t p in
        let rest = first_fault o day after ps in
        ⊎_elim
        (λ (h : P p.account t p.kind). first_number p.line (posting_refusal o day t p) rest n (from p.account t p.kind s.rising h))
        (λ (h : (posting_refusal o day t p ≡ None) × Reaches o day P after ps).
        ap (λ (m : Option Refusal). fault_number (option_or (at_line p.line m) rest)) h.0
        ∙ reaching ps after (opened ++ opened_by_kind day p.account t p.kind) some.1 (kind_sound o day p.account t p.kind opened some.0 s) h.1)
        r

  pub too_many_reached : (ps : List Posting) (t : Table) → fault_number (first_fault o day t ps) ≡ Some 22 → Reaches o day AsksTooMany t ps
  too_many_reached = reached AsksTooMany 22 (λ a t kind e. too_many_from o keeps day a t kind e) (λ a t kind _ h. too_many_to o keeps day a t kind h)

  pub too_many_reaching : (ps : List Posting) (t : Table) (opened : List Key) → AllSome ps → Sound opened t → Reaches o day AsksTooMany t ps → fault_number (first_fault o day t ps) ≡ Some 22
  too_many_reaching = reaching AsksTooMany 22 (λ a t kind e. too_many_from o keeps day a t kind e) (λ a t kind _ h. too_many_to o keeps day a t kind h)

  pub unsettled_reached : (ps : List Posting) (t : Table) → fault_number (first_fault o day t ps) ≡ Some 23 → Reaches o day (IsUnsettled o) t ps
  unsettled_reached = reached (IsUnsettled o) 23 (λ a t kind e. unsettled_is_met o keeps day a t kind e) (λ a t kind ri h. unsettled_meets o keeps day a t kind ri h)

  pub unsettled_reaching : (ps : List Posting) (t : Table) (opened : List Key) → AllSome ps → Sound opened t → Reaches o day (IsUnsettled o) t ps → fault_number (first_fault o day t ps) ≡ Some 23
  unsettled_reaching = reaching (IsUnsettled o) 23 (λ a t kind e. unsettled_is_met o keeps day a t kind e) (λ a t kind ri h. unsettled_meets o keeps day a t kind ri h)
