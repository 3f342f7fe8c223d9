-- The first test that is met, and the order of the tables.
use Rattle.std.proofs.Common.{◌≡◌, ℕ, ◌≤◌, Bool, true, false, cond, ◌&&◌, ◌⊎◌, List, [], ◌∷◌, ◌++◌, ℤ, Some, None, Option, refl, ap, inl, inr, ⊎_elim, arith}
use Rattle.std.specs.List.{AllByRecursion, list_all}
use Rattle.std.proofs.lemmas.Bool.{and_parts}
use Rattle.std.proofs.lemmas.Bool.Decides.{nat_tests}
use Rattle.std.proofs.lemmas.List.Elements.{recursion_from_All}
use Rattle.std.proofs.lemmas.List.Sums.{AllPass-from_list_all}
use Rattle.std.proofs.ByRecursion.{All-append, All-weaker}
use Rattle.refusal.specs.declared.Refusal.TheVariants.{NoSuchDraft}
use Rattle.refusal.specs.declared.Fault.{Fault}
use Rattle.refusal.specs.Table.{number_of}
use Rattle.matching.specs.Drawn.{AllPairs}
use Rattle.stock.specs.Tables.{Table}
use Rattle.lots.specs.Orders.{Order}
use Rattle.booking.specs.declared.posting.Posting.{Posting}
use Rattle.booking.specs.declared.posting.PostingKind.{PostingKind}
use Rattle.booking.specs.declared.posting.PostingKind.TheVariants.{Purchase, Reduction}
use Rattle.booking.specs.Postings.{lots_tests, table_after_posting}
use Rattle.booking.specs.declared.draft.Draft.{Draft}
use Rattle.books.specs.States.{State}
use Rattle.books.specs.Calls.{posting, settling, BracesGiven, CostGiven}
use Rattle.books.specs.Conditions.{no_such_draft}
use Rattle.books.specs.Refusals.{Test, tests_at, fault_of, first_fault_met, if_given, lots_tests_of_all, whole_draft_tests, draft_entries, draft_tests, amount_tests, tests, refusal}
use Rattle.books.specs.Steps.{answered, FirstMet, AnswersFirstMet, may_precede, InListOrder, TablesInListOrder}

-- the first of these tests that is met, with what the answer is of it, or that none is
abbrev Found : List Test → Option Fault → Type 0
Found ts f = ((t : Test) × FirstMet ts t × (f ≡ Some (fault_of t))) ⊎ (AllByRecursion (λ t. t.met ≡ false) ts × (f ≡ None))

first_or_none : (ts : List Test) → Found ts (first_fault_met ts)
first_or_none [] = inr (tt, refl)
first_or_none (t ∷ ts) = at t.met refl (first_or_none ts)
  where
    at : (met : Bool) → t.met ≡ met → Found ts (first_fault_met ts) → Found (t ∷ ts) (cond met (Some (fault_of t)) (first_fault_met ts))
    at true is rest = inl (t, record { before = []; behind = ts; listed = refl; none_before = tt; is_met = is }, refl)
    at false is (inl f) = inl (f.0, record { before = t ∷ f.1.before; behind = f.1.behind; listed = ap (λ xs. t ∷ xs) f.1.listed; none_before = (is, f.1.none_before); is_met = f.1.is_met }, f.2)
    at false is (inr n) = inr ((is, n.0), n.1)

pub answers_first_met : AnswersFirstMet
answers_first_met o s c =
    ⊎_elim
    (λ (f : (t : Test) × FirstMet (tests o s c) t × (refusal o s c ≡ Some (fault_of t))). inl (f.0, f.1, ap (answered o s c) f.2))
    (λ (n : AllByRecursion (λ t. t.met ≡ false) (tests o s c) × (refusal o s c ≡ None)). inr (n.0, ap (answered o s c) n.1))
    (first_or_none (tests o s c))

-- tests of all pairs
abbrev pairs_ordered : List Test → Bool
pairs_ordered [] = true
pairs_ordered (t ∷ ts) = list_all (λ u. may_precede (number_of t.refusal) (number_of u.refusal)) ts && pairs_ordered ts

by_test : (ts : List Test) → pairs_ordered ts ≡ true → InListOrder ts
by_test [] e = tt
by_test (t ∷ ts) e =
    let h = and_parts (list_all (λ u. may_precede (number_of t.refusal) (number_of u.refusal)) ts) (pairs_ordered ts) e in
    (recursion_from_All _ ts (AllPass-from_list_all (λ u. may_precede (number_of t.refusal) (number_of u.refusal)) ts h.0), by_test ts h.1)

pairs_append : {X : Type 0} (R : X → X → Type 0) (xs ys : List X) → AllPairs R xs → AllPairs R ys → AllByRecursion (λ x. AllByRecursion (R x) ys) xs → AllPairs R (xs ++ ys)
pairs_append R [] ys a b between = b
pairs_append R (x ∷ xs) ys a b between = (All-append (R x) xs ys a.0 between.0, pairs_append R xs ys a.1 b between.1)

abbrev Precedes : Test → Test → Type 0
Precedes t u = may_precede (number_of t.refusal) (number_of u.refusal) ≡ true

-- a number of 21 to 24
abbrev OfLots : Test → Type 0
OfLots t = (21 ≤ number_of t.refusal) × (number_of t.refusal ≤ 24)

-- a later one
abbrev OfWhole : Test → Type 0
OfWhole t = 25 ≤ number_of t.refusal

both_of_lots : (t u : Test) → OfLots t → OfLots u → Precedes t u
both_of_lots t u a b = grind (arith, nat_tests)

smaller_first : (t u : Test) → number_of t.refusal ≤ number_of u.refusal → Precedes t u
smaller_first t u h = grind (arith, nat_tests)

of_lots_kind : (o : Order) (day line account : ℕ) (t : Table) (kind : PostingKind) → AllByRecursion OfLots (tests_at line (lots_tests o day account t kind))
of_lots_kind o day line account t (Purchase units commodity cost date) = ((omega arith, omega arith), ((omega arith, omega arith), tt))
of_lots_kind o day line account t (Reduction units commodity cost date) = ((omega arith, omega arith), ((omega arith, omega arith), tt))
of_lots_kind o day line account t kind = tt

of_lots_all : (o : Order) (day : ℕ) (ps : List Posting) (t : Table) → AllByRecursion OfLots (lots_tests_of_all o day t ps)
of_lots_all o day [] t = tt
of_lots_all o day (p ∷ ps) t = All-append OfLots _ _ (of_lots_kind o day p.line p.account t p.kind) (of_lots_all o day ps (table_after_posting o day t p))

lots_in_order : (ts : List Test) → AllByRecursion OfLots ts → InListOrder ts
lots_in_order [] all = tt
lots_in_order (t ∷ ts) all = (All-weaker OfLots (Precedes t) (λ u h. both_of_lots t u all.0 h) ts all.1, lots_in_order ts all.1)

module _ (o : Order) (s : State) where
  draft_in_order : (lent : ℕ) (first : Test) → first.refusal ≡ NoSuchDraft → (d : Option Draft) → InListOrder (first ∷ if_given (draft_tests o s lent) d)
  draft_in_order lent first two None = (tt, tt)
  draft_in_order lent first two (Some d) =
      let lots = lots_tests_of_all o d.date s.books.table d.postings in
      let whole = tests_at d.line (whole_draft_tests s lent d (draft_entries o s d)) in
      let low = of_lots_all o d.date d.postings s.books.table in
      let high : AllByRecursion OfWhole whole = (omega arith, (omega arith, (omega arith, (omega arith, (omega arith, tt))))) in
      let first_is : number_of first.refusal ≡ 2 = ap number_of two in (
        All-append (Precedes first) lots whole
            (All-weaker OfLots (Precedes first) (λ u h. smaller_first first u (omega arith)) lots low)
            (All-weaker OfWhole (Precedes first) (λ u h. smaller_first first u (omega arith)) whole high),
        pairs_append Precedes lots whole (lots_in_order lots low) (by_test whole refl)
            (All-weaker OfLots (λ t. AllByRecursion (Precedes t) whole) (λ t g. All-weaker OfWhole (Precedes t) (λ u h. smaller_first t u (omega arith)) whole high) lots low),
      )

  amount_in_order : (slip line : ℕ) (account : List ℕ) (number : ℤ) (commodity : List ℕ) (braces : Option BracesGiven) → InListOrder (tests_at line (amount_tests s slip account (record { number = number; commodity = commodity; braces = braces })))
  amount_in_order slip line account number commodity None = search (by_test)
  amount_in_order slip line account number commodity (Some b) = parts b.cost b.date
    where
      parts : (cost : Option CostGiven) (date : Option ℕ) → InListOrder (tests_at line (amount_tests s slip account (record { number = number; commodity = commodity; braces = Some (record { cost = cost; date = date }) })))
      parts None None = search (by_test)
      parts None (Some date) = search (by_test)
      parts (Some cost) None = search (by_test)
      parts (Some cost) (Some date) = search (by_test)

pub tables_in_list_order : TablesInListOrder
tables_in_list_order o s (posting slip source account None) = search (by_test)
tables_in_list_order o s (posting slip source account (Some x)) = amount_in_order o s slip source account x.number x.commodity x.braces
tables_in_list_order o s (settling slip lent) = draft_in_order o s lent (record { refusal = NoSuchDraft; line = 0; met = no_such_draft s slip }) refl s.draft
tables_in_list_order o s c = by_test (tests o s c) refl
