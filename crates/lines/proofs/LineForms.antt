-- A line is read exactly as it is written.
use Rattle.std.proofs.lemmas.Bool.Decides.{nat_tests, Decides-eqb}
use Rattle.std.proofs.Common.{◌≡◌, ℕ, ◌≤◌, Bool, true, false, ◌&&◌, eqb, leb, List, [], ◌∷◌, length, get_or, Some, None, Ok, Err, Decides, Option, Result, sym, refl, ap, ◌∙◌, subst, ⊎_elim, arith, MatchResult}
use Rattle.std.specs.List.{AllByRecursion, list_all}
use Rattle.std.proofs.lemmas.Bool.{cases_Bool, cond-true, cond-false, and_parts, and_from, and_right, leb-true, le-leb, eqb-true, eqb-false, eq-eqb, ne_eqb, false≢true}
use Rattle.std.proofs.ByRecursion.{Decides-by_and}
use Rattle.byte_text.specs.Classes.{in_class, all_in, run_length}
use Rattle.byte_text.specs.declared.ByteClass.TheVariants.{Printable, Space}
use Rattle.byte_text.proofs.Runs.{run_all}
use Rattle.values.specs.Spelling.{Starts, IsAccountName}
use Rattle.values.proofs.Commodities.{within_decides}
use Rattle.fields.specs.Results.{map_ok, and_then}
use Rattle.std.specs.Option.{option_map}
use Rattle.fields.specs.Spots.{Spot}
use Rattle.fields.proofs.Options.{none_some}
use Rattle.refusal.specs.declared.Fault.{Fault}
use Rattle.lines.specs.Cuts.{missing}
use Rattle.lines.specs.Directives.{directive_line}
use Rattle.lines.specs.Faults.{fault_on}
use Rattle.lines.specs.Grammar.{Spaces, PostingForm, Clean, BlankLine, Written, ReadsExactly}
use Rattle.lines.specs.Lines.{wrong_byte, line_kind, unless_wrong, posting_line, other_line, by_kind, line_says}
use Rattle.lines.specs.Postings.{posting_of}
use Rattle.lines.specs.Said.{Said, booking_method, commodity, opening, closing, balance, transaction, posting, PostingSaid, UnitsSaid, said}
use Rattle.lines.specs.declared.directive.Directive.{Directive}
use Rattle.lines.specs.declared.fault.LineFault.{LineFault}
use Rattle.lines.specs.declared.line.LineKind.{LineKind}
use Rattle.lines.specs.declared.line.LineKind.TheVariants as kind
use Rattle.lines.proofs.Fronts.{none_only, next_only}
use Rattle.lines.proofs.Steps.{err_ok, same_ok, from_and_then, present, no_account, fields_only}
use Rattle.lines.proofs.DirectiveForms.{directive_sound, directive_complete, form_first}
use Rattle.lines.proofs.PostingForms.{posting_sound, posting_complete}

-- bytes

printable_decides : (line : List ℕ) → Decides (all_in Printable line) (AllByRecursion (λ b. (32 ≤ b) × (b ≤ 126)) line)
printable_decides line = Decides-by_and (in_class Printable) (λ b. (32 ≤ b) × (b ≤ 126)) (list_all (in_class Printable)) (λ b. within_decides 32 126 b) refl (λ _ _. refl) line

spaces_decide : (line : List ℕ) → Decides (all_in Space line) (Spaces line)
spaces_decide line = Decides-by_and (in_class Space) (λ b. b ≡ 32) (list_all (in_class Space)) (λ b. Decides-eqb b 32) refl (λ _ _. refl) line

module _ (line : List ℕ) where
  clean_found : wrong_byte line ≡ None → Clean line
  unfolding wrong_byte
  clean_found e =
      ⊎_elim
      (λ (t : (eqb (run_length Printable line) (length line) && leb (length line) 120) ≡ true).
      let p = and_parts (eqb (run_length Printable line) (length line)) _ t in
      record {
        short = leb-true _ _ p.1;
        printable = (printable_decides line).0 (sym (run_all (in_class Printable) line) ∙ p.0);
      })
      (λ (f : (eqb (run_length Printable line) (length line) && leb (length line) 120) ≡ false). none_some (sym e ∙ cond-false _ _ _ f))
      (cases_Bool (eqb (run_length Printable line) (length line) && leb (length line) 120))

  clean_only : Clean line → wrong_byte line ≡ None
  unfolding wrong_byte
  clean_only c =
      cond-true _ _ _
      (and_from _ _ (run_all (in_class Printable) line ∙ (printable_decides line).1 c.printable) (le-leb _ _ c.short))

  -- kinds

  blank_found : line_kind line ≡ kind.Blank → BlankLine line
  unfolding line_kind
  blank_found e =
      ⊎_elim
      (λ (t : (leb (length line) 120 && all_in Space line) ≡ true).
      let p = and_parts (leb (length line) 120) _ t in
      (leb-true _ _ p.0, (spaces_decide line).0 p.1))
      (λ (f : (leb (length line) 120 && all_in Space line) ≡ false).
      ⊎_elim
      (λ (s : eqb (get_or line 0 0) 32 ≡ true). absurd (grind (arith, sym (cond-true _ kind.Posting kind.Other s) ∙ sym (cond-false _ kind.Blank _ f) ∙ e)))
      (λ (s : eqb (get_or line 0 0) 32 ≡ false). absurd (grind (arith, sym (cond-false _ kind.Posting kind.Other s) ∙ sym (cond-false _ kind.Blank _ f) ∙ e)))
      (cases_Bool (eqb (get_or line 0 0) 32)))
      (cases_Bool (leb (length line) 120 && all_in Space line))

  blank_only : BlankLine line → line_kind line ≡ kind.Blank
  unfolding line_kind
  blank_only b = cond-true _ _ _ (and_from _ _ (le-leb _ _ b.0) ((spaces_decide line).1 b.1))

  kind_by : (k : LineKind) → line_kind line ≡ k → (Spaces line → ⊥) → (eqb (get_or line 0 0) 32 ≡ true → k ≡ kind.Posting) × (eqb (get_or line 0 0) 32 ≡ false → k ≡ kind.Other)
  unfolding line_kind
  kind_by k e n =
      let f : (leb (length line) 120 && all_in Space line) ≡ false = and_right _ _ (unspaced (all_in Space line) refl) in (
        (λ s. sym e ∙ cond-false _ kind.Blank _ f ∙ cond-true _ _ _ s),
        (λ s. sym e ∙ cond-false _ kind.Blank _ f ∙ cond-false _ _ _ s),
      )
    where
      unspaced : (b : Bool) → all_in Space line ≡ b → b ≡ false
      unspaced true h = absurd (n ((spaces_decide line).0 h))
      unspaced false h = refl

  -- the first byte tells postings from other lines
  first_told : (k : LineKind) → line_kind line ≡ k → (k ≡ kind.Posting → eqb (get_or line 0 0) 32 ≡ true) × (k ≡ kind.Other → eqb (get_or line 0 0) 32 ≡ false)
  unfolding line_kind
  first_told k e = grind (arith, nat_tests)

  posting_first : line_kind line ≡ kind.Posting → Starts (λ b. b ≡ 32) line
  posting_first e = first line (eqb-true _ _ ((first_told kind.Posting e).0 refl))
    where
      first : (t : List ℕ) → get_or t 0 0 ≡ 32 → Starts (λ b. b ≡ 32) t
      first [] h = absurd (omega arith)
      first (b ∷ bs) h = h

  -- a line of a kind says what is written

  abbrev Says : ℕ → Option Said → Type 0
  Says number None = BlankLine line
  Says number (Some s) = Written number line s

  unwronged : {A : Type 0} (o : Option ℕ) (r : Result A LineFault) (x : A) → unless_wrong o r ≡ Ok x → (o ≡ None) × (r ≡ Ok x)
  unwronged None r x e = (refl, e)
  unwronged (Some p) r x e = err_ok e

  posting_says : (number : ℕ) (s : Said) → Starts (λ b. b ≡ 32) line → posting_line line ≡ Ok s → Written number line s
  unfolding posting_line
  posting_says number s first e =
      let u = unwronged (wrong_byte line) (and_then (λ (f : LineFault). f) (posting_of line) (λ (p : PostingSaid). Ok (posting p))) s e in
      let a = from_and_then (λ (f : LineFault). f) (posting_of line) (λ (p : PostingSaid). Ok (posting p)) s u.1 in
      subst (Written number line) (same_ok a.2) (clean_found u.0, (first, posting_sound line a.0 a.1))

  other_says : (number : ℕ) (s : Said) → (get_or line 0 0 ≡ 32 → ⊥) → other_line number line ≡ Ok s → Written number line s
  unfolding other_line
  other_says number s first e =
      let u = unwronged (wrong_byte line) (directive_line number line) s e in
      (clean_found u.0, directive_sound line number s first u.1)

  kind_says : (number : ℕ) (k : LineKind) (o : Option Said) → line_kind line ≡ k → by_kind number line k ≡ Ok o → Says number o
  kind_says number kind.Blank o e h = subst (Says number) (same_ok h) (blank_found e)
  kind_says number kind.Posting o e h =
      let a = from_and_then (λ (f : LineFault). f) (posting_line line) (λ (s : Said). Ok (Some s)) o h in
      subst (Says number) (same_ok a.2) (posting_says number a.0 (posting_first e) a.1)
  kind_says number kind.Other o e h =
      let a = from_and_then (λ (f : LineFault). f) (other_line number line) (λ (s : Said). Ok (Some s)) o h in
      subst (Says number) (same_ok a.2) (other_says number a.0 (eqb-false _ _ ((first_told kind.Other e).1 refl)) a.1)

  says_sound : (number : ℕ) (o : Option Said) → line_says number line ≡ Ok o → Says number o
  unfolding line_says
  says_sound number o e =
      let a = from_and_then (fault_on number) (by_kind number line (line_kind line)) (λ (x : Option Said). Ok x) o e in
      subst (Says number) (same_ok a.2) (kind_says number (line_kind line) a.0 refl a.1)

  says_blank : (number : ℕ) → BlankLine line → line_says number line ≡ Ok None
  unfolding line_says
  says_blank number b = let k = blank_only b in rw k

  posted : (account : Spot) (units : Option UnitsSaid) → PostingForm line account units → Spaces line → ⊥
  posted account None h sp = let o = fields_only line 0 account [] h.0 in false≢true (sym (ap missing o.0 ∙ present IsAccountName no_account account h.1) ∙ none_only line 0 sp)
  posted account (Some u) h sp = let o = next_only line 0 account h.0 h.1 h.2 in false≢true (sym (ap missing o.0 ∙ present IsAccountName no_account account h.3) ∙ none_only line 0 sp)

  starts_space : (t : List ℕ) → Starts (λ b. b ≡ 32) t → eqb (get_or t 0 0) 32 ≡ true
  starts_space [] h = absurd h
  starts_space (b ∷ bs) h = eq-eqb b 32 h

  starts_other : (t : List ℕ) → Starts (λ b. b ≡ 32 → ⊥) t → (eqb (get_or t 0 0) 32 ≡ false) × (Spaces t → ⊥)
  starts_other [] h = absurd h
  starts_other (b ∷ bs) h = (ne_eqb b 32 h, λ sp. h sp.0)

  posting_complete_line : (number : ℕ) (p : PostingSaid) → Written number line (posting p) → line_says number line ≡ Ok (Some (posting p))
  unfolding line_says posting_line
  posting_complete_line number p w =
      let k : line_kind line ≡ kind.Posting = (kind_by (line_kind line) refl (posted p.account p.units w.1.1)).0 (starts_space line w.1.0) in
      let c = clean_only w.0 in
      let r : posting_of line ≡ Ok p = posting_complete line p.account p.units w.1.1 in
      rw (k, c, r)

  other_complete_line : (number : ℕ) (s : Said) → Written number line s → ((p : PostingSaid) → s ≡ posting p → ⊥) → line_says number line ≡ Ok (Some s)
  unfolding line_says other_line
  other_complete_line number s w n =
      let f = starts_other line (form_first line number s w.1 n) in
      let k : line_kind line ≡ kind.Other = (kind_by (line_kind line) refl f.1).1 f.0 in
      let c = clean_only w.0 in
      let r = directive_complete line number s w.1 n in
      rw (k, c, r)

  says_complete : (number : ℕ) (s : Said) → Written number line s → line_says number line ≡ Ok (Some s)
  says_complete number (booking_method m) w = other_complete_line number _ w (λ p e. let z : ◌≡◌ {A = ℕ} 0 1 = cc in omega arith)
  says_complete number (commodity d n) w = other_complete_line number _ w (λ p e. let z : ◌≡◌ {A = ℕ} 0 1 = cc in omega arith)
  says_complete number (opening d a o) w = other_complete_line number _ w (λ p e. let z : ◌≡◌ {A = ℕ} 0 1 = cc in omega arith)
  says_complete number (closing d a) w = other_complete_line number _ w (λ p e. let z : ◌≡◌ {A = ℕ} 0 1 = cc in omega arith)
  says_complete number (balance d a n v c) w = other_complete_line number _ w (λ p e. let z : ◌≡◌ {A = ℕ} 0 1 = cc in omega arith)
  says_complete number (transaction d f t) w = other_complete_line number _ w (λ p e. let z : ◌≡◌ {A = ℕ} 0 1 = cc in omega arith)
  says_complete number (posting p) w = posting_complete_line number p w

same_some : {A : Type 0} {x y : A} → Some x ≡ Some y → x ≡ y
same_some e = cc

-- what is read of a line, from what its reading by kinds gives
pub says_by_kind : (number : ℕ) (line : List ℕ) (r : Result (Option Directive) LineFault) (s : Result (Option Directive) Fault) → map_ok (option_map said) r ≡ by_kind number line (line_kind line) → MatchResult r (λ x. s ≡ Ok x) (λ f. s ≡ Err (fault_on number f)) → map_ok (option_map said) s ≡ line_says number line
unfolding line_says
says_by_kind number line (Ok x) s h e = rw (e, ← h)
says_by_kind number line (Err f) s h e = rw (e, ← h)

pub reads_exactly : (number : ℕ) (line : List ℕ) (r : Result (Option Said) Fault) → r ≡ line_says number line → ReadsExactly number line r
reads_exactly number line (Ok None) e = says_sound line number None (sym e)
reads_exactly number line (Ok (Some s)) e = (
  says_sound line number (Some s) (sym e),
  λ other w. same_some (same_ok (sym (says_complete line number other w) ∙ sym e)),
)
reads_exactly number line (Err f) e = (
  (λ b. err_ok (e ∙ says_blank line number b)),
  (λ s w. err_ok (e ∙ says_complete line number s w)),
)
