-- A run under way: what is left of the calls gives the rest of the answer.
use Rattle.std.proofs.Common.{◌≡◌, ℕ, ◌+◌, ◌<◌, ◌≤◌, List, [], ◌∷◌, ◌++◌, length, get_or, take, drop, set, sym, ap, ◌∙◌, append_assoc, arith}
use Rattle.std.proofs.lemmas.List.{append-nil, at_drop_all, at_drop_more, take_more_set, take-append-drop, drop-set-lt, drop-drop, length-map, get_or-map}
use Rattle.lots.specs.Orders.{Order}
use Rattle.books.specs.declared.call.Call as code
use Rattle.books.specs.declared.outcome.Outcome.{Outcome}
use Rattle.books.specs.States.{State}
use Rattle.books.specs.Calls.{Call}
use Rattle.books.specs.Given.{given_call}
use Rattle.books.specs.Lending.{lend_within}
use Rattle.books.specs.Steps.{step, outcomes, state_after}
use Rattle.books.specs.Recording.{record_after_call, record_after_calls}
use Rattle.ledger.specs.Answers.{carried_out}
use Rattle.ledger.specs.Kept.{Kept, in_state}
use Rattle.runs.specs.Runs.{given_calls}

pub record UnderWay (o : Order) (calls : List Call) (start : State) (before : List ℕ) (old : List Outcome) (i : ℕ) (s : State) (book : List ℕ) (answers : List Outcome) : Type 0 where
  pub answered : take i answers ++ outcomes o s (drop i calls) ≡ outcomes o start calls
  pub left : state_after o s (drop i calls) ≡ state_after o start calls
  pub recorded : record_after_calls o s (drop i calls) book ≡ record_after_calls o start calls before
  pub unanswered : drop i answers ≡ drop i old

module _ (o : Order) (calls : List Call) (start : State) (before : List ℕ) (old : List Outcome) (i : ℕ) (s : State) (book : List ℕ) (answers : List Outcome) (u : UnderWay o calls start before old i s book answers) where
  -- one call more
  pub performed : (d : Call) {c : Call} {a : Outcome} {t : State} {after : List ℕ} → i < length calls → i < length answers → c ≡ get_or calls i d → (a, t) ≡ step o s c → after ≡ record_after_call o s c book
      → UnderWay o calls start before old (i + 1) t after (set answers i a)
  performed d {c} {a} {t} {after} more place called stepped written =
      let told : (a, t) ≡ step o s (get_or calls i d) = stepped ∙ ap (step o s) called in
      let wrote : after ≡ record_after_call o s (get_or calls i d) book = written ∙ ap (λ (x : Call). record_after_call o s x book) called in
      let rest = drop (i + 1) calls in
      let same : drop 1 (drop i answers) ≡ drop 1 (drop i old) = ap (drop 1) u.unanswered in
      record {
        answered =
            ap (λ (xs : List Outcome). xs ++ outcomes o t rest) (take_more_set answers i a place)
            ∙ append_assoc (take i answers) (a ∷ []) (outcomes o t rest)
            ∙ ap (λ (xs : List Outcome). take i answers ++ xs) (ap (λ (r : Outcome × State). r.0 ∷ outcomes o r.1 rest) told ∙ sym (at_drop_more (outcomes o s) calls i d more))
            ∙ u.answered;
        left = ap (λ (r : Outcome × State). state_after o r.1 rest) told ∙ sym (at_drop_more (state_after o s) calls i d more) ∙ u.left;
        recorded =
            ap (λ (r : Outcome × State). record_after_calls o r.1 rest after) told
            ∙ ap (record_after_calls o (step o s (get_or calls i d)).1 rest) wrote
            ∙ sym (at_drop_more (λ cs. record_after_calls o s cs book) calls i d more) ∙ u.recorded;
        unanswered = drop-set-lt (i + 1) answers i a (omega arith) ∙ sym (drop-drop 1 i answers) ∙ same ∙ drop-drop 1 i old;
      }

-- on a ledger, told by its calls as they are given
module _ {P : Type 0} (order : P → Order) (calls : List code.Call) (first : Kept P) (before : List ℕ) (old : List Outcome) where
  abbrev pub Going : ℕ → Kept P → List ℕ → List Outcome → Type 0
  Going i l book answers = (l.policy ≡ first.policy) × UnderWay (order first.policy) (given_calls (length before) calls) first.state before old i l.state book answers

  pub went_on : {i : ℕ} {l k : Kept P} {book after : List ℕ} {answers : List Outcome} {a : Outcome} (d : code.Call) → Going i l book answers → i < length calls → i < length answers → length book ≡ length before
      → (a, k) ≡ carried_out order l (lend_within (length book) (given_call (get_or calls i d))) → after ≡ record_after_call (order l.policy) l.state (lend_within (length book) (given_call (get_or calls i d))) book
      → Going (i + 1) k after (set answers i a)
  went_on {i} {l} {k} {book} {after} {answers} {a} d g more place size told wrote =
      let many = length-map calls (λ (x : code.Call). lend_within (length before) (given_call x)) in
      let c = get_or calls i d in
      let f = λ (n : ℕ) (x : code.Call). lend_within n (given_call x) in
      let same : f (length book) c ≡ get_or (given_calls (length before) calls) i (f (length before) d) = ap (λ (n : ℕ). f n c) size ∙ sym (get_or-map (f (length before)) calls i d (f (length before) d) more) in (
        ap (λ (r : Outcome × Kept P). r.1.policy) told ∙ g.0,
        performed (order first.policy) (given_calls (length before) calls) first.state before old i l.state book answers g.1 (f (length before) d) (omega arith) place same
            (ap (λ (r : Outcome × Kept P). (r.0, r.1.state)) told ∙ ap (λ (p : P). step (order p) l.state (f (length book) c)) g.0)
            (wrote ∙ ap (λ (p : P). record_after_call (order p) l.state (f (length book) c) book) g.0),
      )

  pub went_all : {i : ℕ} {l : Kept P} {book : List ℕ} {answers : List Outcome} → Going i l book answers → i ≡ length calls
      → (answers ≡ outcomes (order first.policy) first.state (given_calls (length before) calls) ++ drop (length calls) old)
      × ((l ≡ in_state first (state_after (order first.policy) first.state (given_calls (length before) calls)))
      × (book ≡ record_after_calls (order first.policy) first.state (given_calls (length before) calls) before))
  went_all {i} {l} {book} {answers} g end =
      let o = order first.policy in
      let all = given_calls (length before) calls in
      let many = length-map calls (λ (x : code.Call). lend_within (length before) (given_call x)) in
      let past : length all ≤ i = omega arith in
      let none : take i answers ≡ outcomes o first.state all = sym (append-nil (take i answers)) ∙ ap (λ (xs : List Outcome). take i answers ++ xs) (sym (at_drop_all (outcomes o l.state) all i past)) ∙ g.1.answered in (
        sym (take-append-drop i answers) ∙ ap (λ (xs : List Outcome). xs ++ drop i answers) none ∙ ap (λ (xs : List Outcome). outcomes o first.state all ++ xs) (g.1.unanswered ∙ ap (λ (n : ℕ). drop n old) end),
        (
          λ j. record { policy = g.0 j; state = (sym (at_drop_all (state_after o l.state) all i past) ∙ g.1.left) j },
          sym (at_drop_all (λ cs. record_after_calls o l.state cs book) all i past) ∙ g.1.recorded,
        ),
      )
