-- The law over runs.
use Rattle.std.proofs.Common.{rules, tests, ◌≡◌, ℕ, ◌+◌, ◌-◌, ◌*◌, ◌≤◌, Bool, true, false, cond, not, ◌&&◌, List, [], ◌∷◌, ◌++◌, length, pos, Some, None, Option, sym, refl, ap, ◌∙◌, subst, arith, length-append}
use Rattle.std.proofs.lemmas.Bool.Decides.{nat_tests}
use Rattle.std.specs.Option.{option_map, option_or}
use Rattle.std.specs.List.{AllByRecursion}
use Rattle.std.proofs.lemmas.List.{get_or-replicate}
use Rattle.std.proofs.ByRecursion.{All-append, All-push}
use Rattle.std.proofs.lemmas.Int.{ints}
use Rattle.std.proofs.lemmas.Bool.{or_parts, leb-false, cond-true, false≢true}
use Rattle.std.proofs.lemmas.Option.{none-some}
use Rattle.refusal.specs.declared.Refusal.TheVariants.{NoSuchDraft}
use Rattle.refusal.specs.declared.Fault.{Fault}
use Rattle.lots.specs.declared.rows.Key.{Key}
use Rattle.lots.specs.Orders.{Order, Keeps}
use Rattle.matching.specs.Sums.{sum_of}
use Rattle.matching.proofs.Sums.{sum_of_append}
use Rattle.stock.specs.Tables.{Table}
use Rattle.booking.specs.declared.posting.Posting.{Posting}
use Rattle.booking.specs.declared.posting.PostingKind.{PostingKind}
use Rattle.booking.specs.declared.entry.Entry.{Entry}
use Rattle.refusal.specs.Faults.{fault_at}
use Rattle.refusal.specs.Refusing.{first_met}
use Rattle.booking.specs.Booking.{entries_of, at_line, first_fault}
use Rattle.booking.specs.Weighing.{kind_weight, weight_sum, unbalanced_in, is_empty, has_blank, blank_account, blank_cannot_be_filled, complete}
use Rattle.books.specs.declared.outcome.Outcome.{Outcome}
use Rattle.booking.specs.declared.draft.Draft.{Draft}
use Rattle.books.specs.States.{Books, State, empty_ledger}
use Rattle.books.specs.Calls.{Call, declaring, opening, asserting, closing, posting, settling, writing_header, AmountGiven}
use Rattle.books.specs.Lookups.{own_of}
use Rattle.books.specs.Conditions.{no_such_draft}
use Rattle.books.specs.Refusals.{first_fault_met, if_given, declaring_tests, opening_tests, posting_tests, draft_entries, whole_draft_tests, draft_tests, refusal}
use Rattle.books.specs.Changes.{posting_of, with_posting, lots_after_draft, settled_entries, books_after, after_settling, change, reply}
use Rattle.books.specs.Steps.{answered, step, state_after, outcomes}
use Rattle.books.specs.Recording.{transaction_of}
use Rattle.books.proofs.Nested.{draft_first}
use Rattle.law.specs.Histories.{Settlement, History, no_history, accepted, opened_by, with_settlement, after_accepted, after_call, history_after, all_entries}
use Rattle.law.specs.Amounts.{amount_of_kind, brought_by_kind, drawn_by_kind, lot_at_cost, BooksBalance, BalancesAreSettled, UnitsAreSettled, KindBearsSerial}
use Rattle.law.specs.Reductions.{AsksTooMany, IsUnsettled, Reaches, DraftReaches, DraftDraws, refused_number, RefusedWhere, Settling, IfSettling, EachSettling}
use Rattle.law.specs.Laws.{Stands, BooksStand}
use Rattle.law.proofs.Sums.{sum_of_ints_append, joined_push}
use Rattle.law.proofs.Stocks.{lots_weight, lots_weight_sum, postings_units, postings_at_cost}
use Rattle.law.proofs.Plains.{EntryThere, entries_weigh, balances_length, balances_at, balances_plain}
use Rattle.law.proofs.Fills.{complete_balances, complete_sum, complete_lots_weight, complete_there, complete_all}
use Rattle.law.proofs.Serials.{Sound, bears_more, postings_sound, postings_bear}
use Rattle.law.proofs.Reaching.{draft_draws, too_many_reached, too_many_reaching, unsettled_reached, unsettled_reaching}
use Rattle.books.proofs.Tests.{fault_number, Unmet, unrefused, none_met, no_line, none_met_at, both_none, number_differs}
use Rattle.law.proofs.Limits.{Within, postings_within, well_kept}
use Rattle.law.proofs.Postings.{Few, PostingThere, DraftThere, entries_there, all_some, joins_there}

abbrev Bears : List Key → Entry → Type 0
Bears opened e = KindBearsSerial opened e.kind

-- what holds of the books after these openings and entries
pub record BooksGood (b : Books) (opened : List Key) (es : List Entry) : Type 0 where
  pub size : length b.balances ≡ 1024
  pub balances : BalancesAreSettled es b
  pub there : AllByRecursion EntryThere es
  pub at_cost : (c : ℕ) → pos (sum_of (lot_at_cost c) b.table.lots) ≡ lots_weight_sum c es
  pub weights : (c : ℕ) → 1 ≤ c → c ≤ 16 → weight_sum es c ≡ pos 0
  pub units : UnitsAreSettled es b.table.lots
  pub sound : Sound opened b.table
  pub within : Within b.table
  pub bears : AllByRecursion (Bears opened) es

pub record Good (s : State) (opened : List Key) (xs : List Settlement) : Type 0 where
  pub names : Few s.names
  pub draft : DraftThere s.draft
  pub books : BooksGood s.books opened (all_entries xs)
  pub rows : s.rows ≡ length (all_entries xs)
  pub transactions : s.transactions ≡ length xs

-- Settling a draft.

module _ (o : Order) (b : Books) (opened : List Key) (es : List Entry) (d : Draft) (good : BooksGood b opened es) (there : AllByRecursion PostingThere d.postings) where
  abbrev booked : List Entry
  booked = entries_of o d.date b.table d.postings

  abbrev new_keys : List Key
  new_keys = opened_by o d.date b.table d.postings

  books_good_after : (own : Option ℕ)
      → (not (has_blank booked) && not (is_empty (unbalanced_in booked))) ≡ false → blank_cannot_be_filled own booked ≡ false → first_fault o d.date b.table d.postings ≡ None
      → BooksGood (books_after b (lots_after_draft o b.table d) (settled_entries o b.table d)) (opened ++ new_keys) (es ++ complete booked)
  books_good_after own t25 t26 unmet_lots =
      let C = complete booked in
      let some = all_some d.postings there in
      let there_C : AllByRecursion EntryThere C = complete_there booked (entries_there o d.date d.postings b.table there) in
      record {
        size = balances_length C b.balances ∙ good.size;
        balances = λ a c al ah cl ch.
            let was = good.balances a c al ah cl ch in
            let more = balances_at C b.balances a c good.size (record { a_low = al; a_high = ah; c_low = cl; c_high = ch }) there_C in
            let split = sum_of_ints_append (λ e. amount_of_kind a c e.kind) es C in
            omega (arith, ints);
        there = All-append EntryThere es C good.there there_C;
        at_cost = λ c.
            let was = good.at_cost c in
            let more = postings_at_cost o d.date d.postings b.table c in
            let same = complete_lots_weight c booked in
            let split = sum_of_ints_append (λ e. lots_weight c e.kind) es C in
            omega (arith, ints);
        weights = λ c l h.
            let was = good.weights c l h in
            let more = complete_balances own booked t25 t26 c l h in
            let split = sum_of_ints_append (λ e. kind_weight c e.kind) es C in
            omega (arith, ints);
        units = λ k.
            let was = good.units k in
            let more = postings_units o d.date d.postings b.table k in
            let drawn_same = complete_sum (drawn_by_kind k) (λ _ _ _. refl) booked in
            let brought_same = complete_sum (brought_by_kind k) (λ _ _ _. refl) booked in
            let drawn_split = sum_of_append (λ e. drawn_by_kind k e.kind) es C in
            let brought_split = sum_of_append (λ e. brought_by_kind k e.kind) es C in
            omega arith;
        sound = postings_sound o d.date d.postings b.table opened some good.sound;
        within = postings_within o d.date d.postings b.table there unmet_lots good.within;
        bears = All-append (Bears (opened ++ new_keys)) es C (bears_more opened new_keys es good.bears)
            (complete_all (KindBearsSerial (opened ++ new_keys)) (λ _ _ _ _. tt) booked (postings_bear o d.date d.postings b.table opened some good.sound));
      }

abbrev pub history : State → List Key → List Settlement → History
history s opened xs = record { names = s.names; draft = s.draft; table = s.books.table; opened = opened; settlements = xs }

pub settled_good : (o : Order) (s : State) (lent : ℕ) (d : Option Draft) (opened : List Key) (xs : List Settlement)
    → first_fault_met (if_given (draft_tests o s lent) d) ≡ None → DraftThere d → Good s opened xs
    → Good (after_settling o s d) (with_settlement o (history s opened xs) d).opened (with_settlement o (history s opened xs) d).settlements
settled_good o s lent None opened xs e there g = g
settled_good o s lent (Some d) opened xs e there g =
    let t = s.books.table in
    let booked = draft_entries o s d in
    let whole = whole_draft_tests s lent d booked in
    let parts = both_none (first_fault o d.date t d.postings) (at_line d.line (first_met whole)) (sym (draft_first o s lent d) ∙ e) in
    let unmet = none_met whole (no_line d.line (first_met whole) parts.1) in
    let t25 = (or_parts (is_empty d.postings) (not (has_blank booked) && not (is_empty (unbalanced_in booked))) unmet.0).1 in
    let all = joined_push (λ x. x.entries) xs (record { transaction = transaction_of (length xs + 1) d; entries = complete booked }) in
    record {
      names = g.names;
      draft = tt;
      books = subst (λ (es : List Entry). BooksGood (books_after s.books (lots_after_draft o t d) (settled_entries o t d)) (opened ++ opened_by o d.date t d.postings) es) (sym all)
          (books_good_after o s.books opened (all_entries xs) d g.books there (own_of s.names (blank_account booked)) t25 unmet.1.0 parts.0);
      rows = let r = g.rows in let l = ap length all in let m = length-append (all_entries xs) (complete booked) in omega arith;
      transactions = let r = g.transactions in simp length-append (omega arith);
    }

-- Each accepted call.

joined_there : (s : State) (slip source : ℕ) (account : List ℕ) (amount : Option AmountGiven) → Few s.names → Unmet (posting_tests s slip account amount) → (d : Option Draft) → DraftThere d → DraftThere (option_map (with_posting (posting_of s.names source account amount)) d)
joined_there s slip source account amount few unmet None there = tt
joined_there s slip source account amount few unmet (Some d) there = All-push PostingThere d.postings (posting_of s.names source account amount) there (joins_there s few slip source account amount unmet)

module _ (o : Order) where
  accepted_good : (c : Call) (s : State) (opened : List Key) (xs : List Settlement) → refusal o s c ≡ None → Good s opened xs
      → Good (change o s c) (after_accepted o (history s opened xs) c).opened (after_accepted o (history s opened xs) c).settlements
  accepted_good (declaring source date name) s opened xs e g =
      let unmet = none_met_at source (declaring_tests s date name) e in
      let room = leb-false 16 (length s.names.commodities) unmet.1.1.1.1.1.0 in
      record { names = record { commodities = simp length-append (omega arith); accounts = g.names.accounts }; draft = g.draft; books = g.books; rows = g.rows; transactions = g.transactions }
  accepted_good (opening source date name own) s opened xs e g =
      let unmet = none_met_at source (opening_tests s date name own) e in
      let room = leb-false 64 (length s.names.accounts) unmet.1.1.1.1.1.1.1.0 in
      record { names = record { commodities = g.names.commodities; accounts = simp length-append (omega arith) }; draft = g.draft; books = g.books; rows = g.rows; transactions = g.transactions }
  accepted_good (closing source date account) s opened xs e g = search (rules, tests)
  accepted_good (posting slip source account amount) s opened xs e g =
      record { names = g.names; draft = joined_there s slip source account amount g.names (none_met_at source (posting_tests s slip account amount) e) s.draft g.draft; books = g.books; rows = g.rows; transactions = g.transactions }
  accepted_good (settling slip lent) s opened xs e g = settled_good o s lent s.draft opened xs (unrefused (no_such_draft s slip) (fault_at 0 NoSuchDraft) (first_fault_met (if_given (draft_tests o s lent) s.draft)) e).1 g.draft g
  accepted_good (asserting source date account amount commodity) s opened xs e g = grind (arith, nat_tests)
  accepted_good (writing_header lent) s opened xs e g = g
  accepted_good _ s opened xs e g = grind (arith, nat_tests)

  -- an accepted call leaves what the history says
  settled_history : (s : State) (opened : List Key) (xs : List Settlement) (d : Option Draft)
      → history (after_settling o s d) (with_settlement o (history s opened xs) d).opened (with_settlement o (history s opened xs) d).settlements ≡ with_settlement o (history s opened xs) d
  settled_history s opened xs None = refl
  settled_history s opened xs (Some d) = refl

  accepted_history : (c : Call) (s : State) (opened : List Key) (xs : List Settlement)
      → history (change o s c) (after_accepted o (history s opened xs) c).opened (after_accepted o (history s opened xs) c).settlements ≡ after_accepted o (history s opened xs) c
  accepted_history (settling slip lent) s opened xs = settled_history s opened xs s.draft
  accepted_history _ s opened xs = refl

pub reply_accepted : (s : State) (c : Call) → accepted (reply s c) ≡ true
reply_accepted s (settling slip lent) = refl
reply_accepted s _ = refl

-- Settlings.

settling_number : (o : Order) (s : State) (slip lent : ℕ) (r : Option Fault) → refused_number (answered o s (settling slip lent) r).0 ≡ fault_number r
settling_number o s slip lent None = refl
settling_number o s slip lent (Some f) = refl

settling_accepted : (o : Order) (s : State) (slip lent : ℕ) (r : Option Fault) → accepted (answered o s (settling slip lent) r).0 ≡ true → r ≡ None
settling_accepted o s slip lent None e = refl
settling_accepted o s slip lent (Some f) e = absurd (false≢true e)

module _ (o : Order) (keeps : Keeps o) (s : State) (slip lent : ℕ) (opened : List Key) (sound : Sound opened s.books.table) where
  abbrev Whole : Option Draft → Option Fault
  Whole d = first_fault_met (if_given (draft_tests o s lent) d)

  abbrev behind : Bool → Option Draft → Option Fault
  behind b d = cond b (Some (fault_at 0 NoSuchDraft)) (Whole d)

  abbrev OutcomeOf : Option Fault → Outcome
  OutcomeOf r = (answered o s (settling slip lent) r).0

  module _ (P : ℕ → Table → PostingKind → Type 0) (n : ℕ)
      (others : (2 ≡ n → ⊥) × (25 ≡ n → ⊥) × (26 ≡ n → ⊥) × (27 ≡ n → ⊥) × (31 ≡ n → ⊥) × (32 ≡ n → ⊥))
      (to : (day : ℕ) (ps : List Posting) → fault_number (first_fault o day s.books.table ps) ≡ Some n → Reaches o day P s.books.table ps)
      (from : (day : ℕ) (ps : List Posting) → AllByRecursion PostingThere ps → Reaches o day P s.books.table ps → fault_number (first_fault o day s.books.table ps) ≡ Some n) where
    by_first : (f w : Option Fault) → (fault_number w ≡ Some n → ⊥) → fault_number (option_or f w) ≡ Some n → fault_number f ≡ Some n
    by_first None w no_w e = absurd (no_w e)
    by_first (Some x) w no_w e = e

    first_stays : (f w : Option Fault) → fault_number f ≡ Some n → fault_number (option_or f w) ≡ Some n
    first_stays None w e = absurd (none-some n e)
    first_stays (Some x) w e = e

    whole_from : (d : Option Draft) → fault_number (Whole d) ≡ Some n → DraftReaches o P s.books.table d
    whole_from None e = absurd (none-some n e)
    whole_from (Some d) e =
        let whole = whole_draft_tests s lent d (draft_entries o s d) in
        to d.date d.postings (by_first (first_fault o d.date s.books.table d.postings) (at_line d.line (first_met whole))
        (number_differs whole n d.line (others.1, (others.2, (others.3, (others.4, (others.5, tt)))))) (sym (ap fault_number (draft_first o s lent d)) ∙ e))

    whole_to : (d : Option Draft) → DraftThere d → DraftReaches o P s.books.table d → fault_number (Whole d) ≡ Some n
    whole_to None there r = absurd r
    whole_to (Some d) there r =
        ap fault_number (draft_first o s lent d)
        ∙ first_stays (first_fault o d.date s.books.table d.postings) (at_line d.line (first_met (whole_draft_tests s lent d (draft_entries o s d)))) (from d.date d.postings there r)

    refused_where : (b : Bool) (d : Option Draft) → DraftThere d → RefusedWhere (OutcomeOf (behind b d)) n (DraftReaches o P s.books.table d)
    refused_where true d there = grind (arith, nat_tests)
    refused_where false d there = record {
      only_where = λ e. whole_from d (sym (settling_number o s slip lent (Whole d)) ∙ e);
      wherever = λ _ r. settling_number o s slip lent (Whole d) ∙ whole_to d there r;
    }

  draws_where : (b : Bool) (d : Option Draft) → DraftThere d → behind b d ≡ None → DraftDraws o s.books.table d
  draws_where true d there e = absurd (none-some _ (sym e))
  draws_where false None there e = tt
  draws_where false (Some d) there e =
      draft_draws o keeps d.date d.postings s.books.table opened (all_some d.postings there) sound
      (both_none (first_fault o d.date s.books.table d.postings) (at_line d.line (first_met (whole_draft_tests s lent d (draft_entries o s d)))) (sym (draft_first o s lent d) ∙ e)).0

  settling_so : DraftThere s.draft → (xs : List Settlement) → Settling o (history s opened xs) (step o s (settling slip lent)).0
  settling_so there xs = record {
    draws_by_policy = λ e. draws_where (no_such_draft s slip) s.draft there (settling_accepted o s slip lent (behind (no_such_draft s slip) s.draft) e);
    too_many_is_22 = refused_where AsksTooMany 22 ((λ e. omega arith), (λ e. omega arith), (λ e. omega arith), (λ e. omega arith), (λ e. omega arith), (λ e. omega arith))
        (λ day ps. too_many_reached o keeps day ps s.books.table) (λ day ps ok. too_many_reaching o keeps day ps s.books.table opened (all_some ps ok) sound) (no_such_draft s slip) s.draft there;
    unsettled_is_23 = refused_where (IsUnsettled o) 23 ((λ e. omega arith), (λ e. omega arith), (λ e. omega arith), (λ e. omega arith), (λ e. omega arith), (λ e. omega arith))
        (λ day ps. unsettled_reached o keeps day ps s.books.table) (λ day ps ok. unsettled_reaching o keeps day ps s.books.table opened (all_some ps ok) sound) (no_such_draft s slip) s.draft there;
  }

-- One call after another.

module _ (o : Order) (keeps : Keeps o) where
  if_settling : (c : Call) (s : State) (opened : List Key) (xs : List Settlement) → Good s opened xs → IfSettling o (history s opened xs) c (step o s c).0
  if_settling (settling slip lent) s opened xs g = settling_so o keeps s slip lent opened g.books.sound g.draft xs
  if_settling _ s opened xs g = tt

  -- one call keeps the books, and leaves what the history says
  abbrev pub Kept : History → State → Type 0
  Kept h s = Good s h.opened h.settlements × (history s h.opened h.settlements ≡ h)

  pub answered_kept : (s : State) (opened : List Key) (xs : List Settlement) (c : Call) (r : Option Fault) → refusal o s c ≡ r → Good s opened xs
      → Kept (after_call o (history s opened xs) c (answered o s c r).0) (answered o s c r).1
  answered_kept s opened xs c (Some f) e g = (g, refl)
  answered_kept s opened xs c None e g =
      subst (λ (h : History). Kept h (change o s c)) (sym (cond-true (accepted (reply s c)) (after_accepted o (history s opened xs) c) (history s opened xs) (reply_accepted s c)))
      (accepted_good o c s opened xs e g, accepted_history o c s opened xs)

  abbrev Ends : State → History → List Call → Type 0
  Ends s h calls = Kept (history_after o h calls (outcomes o s calls)) (state_after o s calls) × EachSettling o h calls (outcomes o s calls)

  law_from : (calls : List Call) (s : State) (opened : List Key) (xs : List Settlement) → Good s opened xs → Ends s (history s opened xs) calls
  law_from [] s opened xs g = ((g, refl), tt)
  law_from (c ∷ cs) s opened xs g =
      let x = (step o s c).0 in
      let s1 = (step o s c).1 in
      let h1 = after_call o (history s opened xs) c x in
      let kept = answered_kept s opened xs c (refusal o s c) refl g in
      let rest : Ends s1 h1 cs = subst (λ (h : History). Ends s1 h cs) kept.1 (law_from cs s1 h1.opened h1.settlements kept.0) in
      (rest.0, (if_settling c s opened xs g, rest.1))

pub empty_good : Good empty_ledger [] []
empty_good = record {
  names = record { commodities = omega arith; accounts = omega arith };
  draft = tt;
  books = record {
    size = refl;
    balances = λ a c al ah cl ch. get_or-replicate 1024 (16 * (a - 1) + (c - 1)) (pos 0) (pos 0) (omega arith);
    there = tt;
    at_cost = λ c. refl;
    weights = λ c l h. refl;
    units = λ k. refl;
    sound = record { counted = refl; serials = tt; rising = tt; differ = tt; some = tt };
    within = record { at_most = omega arith; ranges = tt };
    bears = tt;
  };
  rows = refl;
  transactions = refl;
}

balances : (b : Books) (opened : List Key) (es : List Entry) → BooksGood b opened es → BooksBalance b
balances b opened es g c l h =
    let a = balances_plain c b es l h g.there g.balances in
    let w = g.at_cost c in
    let v = entries_weigh c es in
    let e = g.weights c l h in
    omega (arith, ints)

stands : (h : History) (s : State) → Good s h.opened h.settlements → history s h.opened h.settlements ≡ h → Stands h s
stands h s g same = record {
  books_balance = balances s.books h.opened (all_entries h.settlements) g.books;
  balances_are_settled = g.books.balances;
  units_are_settled = g.books.units;
  lots_are_settled = ap (λ (x : History). x.table) same;
  lots_are_well_kept = well_kept s.books.table h.opened g.books.sound g.books.within;
  lots_bear_serials = g.books.sound.serials;
  next_serial = g.books.sound.counted;
  entries_bear_serials = g.books.bears;
  rows_are_counted = g.rows;
  transactions_are_counted = g.transactions;
  names_are_given = ap (λ (x : History). x.names) same;
  draft_is_begun = ap (λ (x : History). x.draft) same;
}

pub books_stand : BooksStand
books_stand o keeps calls =
    let ends = law_from o keeps calls empty_ledger [] [] empty_good in
    record {
      stands = stands (history_after o no_history calls (outcomes o empty_ledger calls)) (state_after o empty_ledger calls) ends.0.0 ends.0.1;
      reductions_draw_by_policy = ends.1;
    }
