-- A line is accepted exactly where the grammar and the books allow it.
use Rattle.std.proofs.Common.{◌≡◌, ℕ, ◌+◌, Bool, true, false, cond, ◌&&◌, ◌==◌, nat_le, List, [], ◌∷◌, ◌++◌, length, Some, None, Ok, Err, Option, Result, refl, sym, ap, ◌∙◌, subst, ⊎_elim}
use Rattle.std.proofs.lemmas.Bool.{false≢true}
use Rattle.std.specs.List.{AllByRecursion}
use Rattle.refusal.specs.declared.Fault.{Fault}
use Rattle.lots.specs.Orders.{Order}
use Rattle.lines.specs.Grammar.{Written, ReadsExactly}
use Rattle.lines.specs.Lines.{line_kind, line_says, by_kind, unless_wrong, wrong_byte, posting_line, other_line}
use Rattle.lines.specs.Postings.{posting_of}
use Rattle.lines.specs.Faults.{fault_on}
use Rattle.lines.specs.declared.fault.LineFault.{LineFault}
use Rattle.fields.specs.Results.{and_then}
use Rattle.byte_text.specs.Classes.{all_in}
use Rattle.byte_text.specs.declared.ByteClass.TheVariants.{Space}
use Rattle.lines.specs.Said.{Said, booking_method, commodity, opening, closing, balance, transaction, posting, PostingSaid}
use Rattle.lines.specs.declared.line.LineKind.{LineKind}
use Rattle.lines.specs.declared.line.LineKind.TheVariants as kind
use Rattle.lines.proofs.LineForms.{reads_exactly}
use Rattle.books.specs.declared.outcome.Outcome.{Outcome}
use Rattle.std.specs.Option.{option_map}
use Rattle.fields.specs.Spots.{Spot}
use Rattle.books.specs.Calls as call
use Rattle.books.specs.Calls.{Call, settling}
use Rattle.books.specs.declared.outcome.Outcome.TheVariants.{Refused}
use Rattle.books.specs.Changes.{change, reply}
use Rattle.books.specs.Refusals.{Test, fault_of, tests}
use Rattle.values.specs.Spelling.{Starts}
use Rattle.books.specs.States.{State, next_number}
use Rattle.books.specs.Steps.{step, FirstMet}
use Rattle.books.proofs.Firsts.{answers_first_met}
use Rattle.law.specs.Histories.{accepted}
use Rattle.law.proofs.Runs.{reply_accepted}
use Rattle.reader.specs.declared.phase.Phase.{Phase}
use Rattle.reader.specs.declared.phase.Phase.TheVariants.{Outside, InTransaction, Skipping}
use Rattle.reader.specs.Asked.{call_asked, units_given}
use Rattle.reader.specs.Turns.{said_turn, directive_turn, posting_turn}
use Rattle.reader.specs.Readings.{books, after_lines, unread}
use Rattle.journals.specs.Accepted.{Exactly, outcome_accepted, BooksAllow, Allowed, LineExactly, AcceptedExactly, read_before}

-- a test that is met is not unmet
met_among : (before : List Test) (t : Test) (behind : List Test) → AllByRecursion (λ u. u.met ≡ false) (before ++ t ∷ behind) → t.met ≡ false
met_among [] t behind all = all.0
met_among (u ∷ before) t behind all = met_among before t behind all.1

-- a call is accepted exactly where it meets no refusal
call_exactly : (o : Order) (s : State) (c : Call) → Exactly (accepted (step o s c).0) (BooksAllow o s (Some c))
call_exactly o s c =
    ⊎_elim
    (λ (r : (t : Test) × FirstMet (tests o s c) t × (step o s c ≡ (Refused (fault_of t), s))). record {
      only_where = λ yes. absurd (false≢true (sym (ap (λ (x : Outcome × State). accepted x.0) r.2) ∙ yes));
      wherever = λ all. absurd (false≢true (sym (met_among r.1.before r.0 r.1.behind (subst (AllByRecursion (λ t. t.met ≡ false)) r.1.listed all)) ∙ r.1.is_met));
    })
    (λ (n : AllByRecursion (λ t. t.met ≡ false) (tests o s c) × (step o s c ≡ (reply s c, change o s c))). record {
      only_where = λ _. n.0;
      wherever = λ _. ap (λ (x : Outcome × State). accepted x.0) n.1 ∙ reply_accepted s c;
    })
    (answers_first_met o s c)

-- Directive lines.

-- of a line that says d and nothing else
written_exactly : (o : Order) (s : State) (number : ℕ) (line : List ℕ) (d : Said) (b : Bool) → Written number line d → ((other : Said) → Written number line other → other ≡ d) → Exactly b (BooksAllow o s (call_asked number (next_number s) d)) → Exactly b (Allowed o s number line)
written_exactly o s number line d b written alone e = record {
  only_where = λ yes. (d, written, e.only_where yes);
  wherever = λ allowed. e.wherever (subst (λ (x : Said). BooksAllow o s (call_asked number (next_number s) x)) (alone allowed.0 allowed.1) allowed.2);
}

-- a line that no form fits
unwritten_exactly : (o : Order) (s : State) (number : ℕ) (line : List ℕ) → ((d : Said) → Written number line d → ⊥) → Exactly false (Allowed o s number line)
unwritten_exactly o s number line none = record { only_where = λ yes. absurd (false≢true yes); wherever = λ allowed. absurd (none allowed.0 allowed.1) }

said_exactly : (o : Order) (s : State) (number : ℕ) (d : Said) → ((p : PostingSaid) → d ≡ posting p → ⊥) → Exactly (outcome_accepted (said_turn o s number d).outcome) (BooksAllow o s (call_asked number (next_number s) d))
said_exactly o s number (booking_method m) other = record { only_where = λ _. tt; wherever = λ _. refl }
said_exactly o s number (commodity d name) other = call_exactly o s (call.declaring number d name.text)
said_exactly o s number (opening d account own) other = call_exactly o s (call.opening number d account.text (option_map (λ (x : Spot). x.text) own))
said_exactly o s number (closing d account) other = call_exactly o s (call.closing number d account.text)
said_exactly o s number (balance d account n z c) other = call_exactly o s (call.asserting number d account.text z c.text)
said_exactly o s number (transaction d flag text) other = call_exactly o s (call.beginning number d flag)
said_exactly o s number (posting p) other = absurd (other p refl)

-- no posting is written on a line of another kind
no_space_first : (line : List ℕ) → Starts (λ b. b ≡ 32) line → line_kind line ≡ kind.Other → ⊥
unfolding line_kind
no_space_first [] starts e = absurd starts
no_space_first (b ∷ bs) starts e = by (nat_le (length (b ∷ bs)) 120 && all_in Space (b ∷ bs)) e
  where
    by : (blank : Bool) → cond blank kind.Blank (cond (b == 32) kind.Posting kind.Other) ≡ kind.Other → ⊥
    by true e = cc
    by false e = cc

-- a directive line says something
says_something : (number : ℕ) (line : List ℕ) → line_kind line ≡ kind.Other → line_says number line ≡ Ok None → ⊥
unfolding line_says
says_something number line other e = by (other_line number line) (sym (ap (λ (k : LineKind). and_then (fault_on number) (by_kind number line k) (λ x. Ok x)) other) ∙ e)
  where
    by : (r : Result Said LineFault) → and_then (fault_on number) (and_then (λ f. f) r (λ x. Ok (Some x))) (λ x. Ok x) ≡ Ok None → ⊥
    by (Ok x) e = cc
    by (Err f) e = cc

-- and a posting line a posting
says_a_posting : (number : ℕ) (line : List ℕ) {x : Option Said} → line_kind line ≡ kind.Posting → line_says number line ≡ Ok x → (p : PostingSaid) × (x ≡ Some (posting p))
unfolding line_says posting_line
says_a_posting number line {x} post e = by (wrong_byte line) (posting_of line) (sym (ap (λ (k : LineKind). and_then (fault_on number) (by_kind number line k) (λ y. Ok y)) post) ∙ e)
  where
    by : (w : Option ℕ) (r : Result PostingSaid LineFault) → and_then (fault_on number) (and_then (λ f. f) (unless_wrong w (and_then (λ f. f) r (λ p. Ok (posting p)))) (λ y. Ok (Some y))) (λ y. Ok y) ≡ Ok x → (p : PostingSaid) × (x ≡ Some (posting p))
    by (Some place) r e = absurd (cc)
    by None (Err f) e = absurd (cc)
    by None (Ok p) e = (p, cc)

directive_exactly : (o : Order) (s : State) (number : ℕ) (line : List ℕ) → line_kind line ≡ kind.Other → Exactly (outcome_accepted (directive_turn o s number (line_says number line)).outcome) (Allowed o s number line)
directive_exactly o s number line other = by (line_says number line) refl (reads_exactly number line (line_says number line) refl)
  where
    by : (r : Result (Option Said) Fault) → line_says number line ≡ r → ReadsExactly number line r → Exactly (outcome_accepted (directive_turn o s number r).outcome) (Allowed o s number line)
    by (Err f) is exactly = unwritten_exactly o s number line exactly.1
    by (Ok None) is exactly = absurd (says_something number line other is)
    by (Ok (Some d)) is exactly = written_exactly o s number line d (outcome_accepted (said_turn o s number d).outcome) exactly.0 exactly.1 (said_exactly o s number d (λ p e. no_space_first line (subst (Written number line) e exactly.0).1.0 other))

-- Posting lines of a transaction under way.

posting_exactly : (o : Order) (s : State) (number : ℕ) (line : List ℕ) → line_kind line ≡ kind.Posting → Exactly (outcome_accepted (posting_turn o s number (line_says number line)).outcome) (Allowed o s number line)
posting_exactly o s number line post = by (line_says number line) refl (reads_exactly number line (line_says number line) refl)
  where
    by : (r : Result (Option Said) Fault) → line_says number line ≡ r → ReadsExactly number line r → Exactly (outcome_accepted (posting_turn o s number r).outcome) (Allowed o s number line)
    by (Err f) is exactly = unwritten_exactly o s number line exactly.1
    by (Ok None) is exactly = absurd (let p = says_a_posting number line post is in cc)
    by (Ok (Some (posting p))) is exactly =
        written_exactly o s number line (posting p) _ exactly.0 exactly.1 (call_exactly o s (call.posting (next_number s) number p.account.text (option_map units_given p.units)))
    by (Ok (Some d)) is exactly = absurd (let p = says_a_posting number line post is in cc)

pub line_exactly : (o : Order) (s : State) (number : ℕ) (line : List ℕ) (phase : Phase) (k : LineKind) → line_kind line ≡ k → LineExactly o s number line phase k
line_exactly o s number line phase kind.Blank is = tt
line_exactly o s number line Outside kind.Posting is = refl
line_exactly o s number line InTransaction kind.Posting is = posting_exactly o s number line is
line_exactly o s number line Skipping kind.Posting is = refl
line_exactly o s number line phase kind.Other is = directive_exactly o s number line is

-- Journals.

pub accepted_exactly : (o : Order) (lent : ℕ) (lines : List (List ℕ)) → AcceptedExactly o lent lines
accepted_exactly o lent lines = record {
  each_line = λ before line behind _. line_exactly o (books o (read_before o lent before line)) (length before + 1) line (read_before o lent before line).phase (line_kind line) refl;
  each_draft = λ before behind _. let s = books o (after_lines o lent 1 unread before) in call_exactly o s (settling (next_number s) lent);
}
