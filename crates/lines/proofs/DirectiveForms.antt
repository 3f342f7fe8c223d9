-- Lines that are no postings say what they are written to say.
use Rattle.std.proofs.lemmas.Grind.{common_steps}
use Rattle.std.proofs.lemmas.Bool.Decides.{nat_tests}
use Rattle.std.proofs.Common.{◌≡◌, ℕ, ◌+◌, ◌≤◌, Bool, true, false, cond, ◌&&◌, eqb, List, [], ◌∷◌, ◌++◌, length, get_or, drop, Ok, Err, codes, Result, sym, refl, ap, ◌∙◌, subst, arith}
use Rattle.std.specs.Char.{is_ascii_digit}
use Rattle.std.specs.Str.{bytes_eq}
use Rattle.std.proofs.lemmas.Slice.Eq.{bytes_eq-Decides}
use Rattle.std.proofs.lemmas.List.{nil_from_length}
use Rattle.std.proofs.lemmas.Bool.{and_parts, eqb-true, eq-eqb, ne_eqb}
use Rattle.byte_text.specs.Classes.{run_length}
use Rattle.byte_text.specs.declared.ByteClass.TheVariants.{Space}
use Rattle.values.specs.Spelling.{Starts}
use Rattle.values.proofs.Commodities.{within_decides}
use Rattle.fields.specs.Dates.{date_at}
use Rattle.fields.specs.Denotes.{WritesDate}
use Rattle.fields.specs.Spots.{Spot}
use Rattle.lines.specs.Cuts.{field_start, field_at, field_end}
use Rattle.lines.specs.Directives.{by_word, dated_from, dated_line, directive_line, option_from, commodity_from, open_from, close_from, balance_from, transaction_from}
use Rattle.lines.specs.Grammar.{Next, Fields, Quoted, Dated, CommodityForm, OpenForm, CloseForm, Form, flag_sign}
use Rattle.lines.specs.Said.{Said, booking_method, commodity, opening, closing, balance, transaction, posting, PostingSaid}
use Rattle.values.specs.declared.flag.Flag.TheVariants.{Complete, Incomplete}
use Rattle.lines.specs.declared.fault.LineFault.{LineFault}
use Rattle.lines.specs.declared.fault.LineFault.TheVariants as fault
use Rattle.lines.proofs.Fronts.{start_is, next_only}
use Rattle.lines.proofs.Steps.{err_ok, from_and_then, from_date, to_date, no_date, found, front_only}
use Rattle.lines.proofs.Keywords.{by_words}
use Rattle.lines.proofs.Dated.{commodity_sound, commodity_complete, open_sound, open_complete, close_sound, close_complete, balance_sound, balance_complete}
use Rattle.lines.proofs.Texts.{transaction_sound, transaction_complete, option_sound, option_complete}

-- which way a choice went
by_choice : {A P : Type 0} (b : Bool) (x y z : A) → cond b x y ≡ z → (b ≡ true → x ≡ z → P) → (b ≡ false → y ≡ z → P) → P
by_choice true x y z e f g = f refl e
by_choice false x y z e f g = g refl e

-- a line that starts with a byte which is no space starts with its first field
first_place : (line : List ℕ) → (get_or line 0 0 ≡ 32 → ⊥) → field_start line 0 + 1 ≡ 1
first_place [] n = omega (arith, start_is [] 0)
first_place (b ∷ bs) n = let none : run_length Space (b ∷ bs) ≡ 0 = rw (ne_eqb b 32 n) in omega (arith, start_is (b ∷ bs) 0, none)

module _ (line : List ℕ) where
  abbrev word_at : Spot
  word_at = field_at line (field_end line 0)

  abbrev behind : ℕ
  behind = field_end line (field_end line 0)

  -- the date and a word in front
  dated_found : (d : ℕ) (word : List ℕ) → (word ≡ [] → ⊥) → is_ascii_digit (get_or line 0 0) ≡ true → WritesDate (field_at line 0).text d → word_at.text ≡ word → Dated line d word (drop behind line) (behind + 1)
  dated_found d word some digit w e =
      record {
        day = field_at line 0;
        keyword = word_at;
        front = (
          drop (field_end line 0) line,
          field_end line 0 + 1,
          found line (λ (t : List ℕ). WritesDate t d) (no_date d) 0 w,
          (drop behind line, behind + 1, found line (λ (t : List ℕ). t ≡ word) (λ (z : [] ≡ word). some (sym z)) (field_end line 0) e, (refl, refl)),
        );
        first = first_place line (digit_no_space (get_or line 0 0) digit);
        writes = w;
        says = e;
      }
    where
      digit_no_space : (b : ℕ) → is_ascii_digit b ≡ true → b ≡ 32 → ⊥
      digit_no_space b h z = let p = (within_decides 48 57 b).0 h in omega arith

  first_digit : (day : Spot) (rest : List ℕ) (q d : ℕ) → Next 1 line day rest q → day.place ≡ 1 → WritesDate day.text d → is_ascii_digit (get_or line 0 0) ≡ true
  first_digit day rest q d n p w = grind (arith, common_steps)

  dated_only : (d : ℕ) (word rest : List ℕ) (q : ℕ) → Dated line d word rest q → (is_ascii_digit (get_or line 0 0) ≡ true) × (date_at (field_at line 0).text (field_at line 0).place ≡ Ok d) × (word_at.text ≡ word) × (drop behind line ≡ rest) × (behind + 1 ≡ q)
  dated_only d word rest q h =
      let o = front_only line 0 h.day (h.keyword ∷ []) rest q h.front in
      let p = front_only line (field_end line 0) h.keyword [] rest q o.1 in (
        first_digit h.day h.front.0 h.front.1 d h.front.2 h.first h.writes,
        ap (λ (s : Spot). date_at s.text s.place) o.0 ∙ to_date h.day.text h.day.place d h.writes,
        ap (λ (s : Spot). s.text) p.0 ∙ h.says,
        p.1.0,
        p.1.1,
      )

  -- the word behind the date decides

  abbrev is : List ℕ → Bool
  is word = bytes_eq word_at.text word

  abbrev unknown : Result Said LineFault
  unknown = Err (fault.Form word_at.place)

  abbrev from_flag : ℕ → Result Said LineFault
  from_flag d = cond (is (codes "!")) (transaction_from line d Incomplete behind) unknown

  abbrev from_star : ℕ → Result Said LineFault
  from_star d = cond (is (codes "*")) (transaction_from line d Complete behind) (from_flag d)

  abbrev from_balance : ℕ → Result Said LineFault
  from_balance d = cond (is (codes "balance")) (balance_from line d behind) (from_star d)

  abbrev from_close : ℕ → Result Said LineFault
  from_close d = cond (is (codes "close")) (close_from line d behind) (from_balance d)

  abbrev from_open : ℕ → Result Said LineFault
  from_open d = cond (is (codes "open")) (open_from line d behind) (from_close d)

  some_word : (w : List ℕ) → 1 ≤ length w → w ≡ [] → ⊥
  some_word w l z = omega (arith, ap length z)

  by_word_sound : (number d : ℕ) (s : Said) → is_ascii_digit (get_or line 0 0) ≡ true → WritesDate (field_at line 0).text d → by_word line d word_at behind ≡ Ok s → Form number line s
  by_word_sound number d s digit w e =
      by_choice (is (codes "commodity")) (commodity_from line d behind) (from_open d) (Ok s) (by_words line d word_at.place behind word_at.text ∙ e)
      (λ y c.
      let f = commodity_sound line d behind s c in
      subst (Form number line) (sym f.1) (rest, q, here (codes "commodity") (omega arith) y, f.2))
      (λ _ e₁.
      by_choice (is (codes "open")) (open_from line d behind) (from_close d) (Ok s) e₁
      (λ y c.
      let f = open_sound line d behind s c in
      subst (Form number line) (sym f.2) (rest, q, here (codes "open") (omega arith) y, f.3))
      (λ _ e₂.
      by_choice (is (codes "close")) (close_from line d behind) (from_balance d) (Ok s) e₂
      (λ y c.
      let f = close_sound line d behind s c in
      subst (Form number line) (sym f.1) (rest, q, here (codes "close") (omega arith) y, f.2))
      (λ _ e₃.
      by_choice (is (codes "balance")) (balance_from line d behind) (from_star d) (Ok s) e₃
      (λ y c.
      let f = balance_sound line d behind s c in
      subst (Form number line) (sym f.4) (rest, q, here (codes "balance") (omega arith) y, f.5, f.6, f.7, f.8))
      (λ _ e₄.
      by_choice (is (codes "*")) (transaction_from line d Complete behind) (from_flag d) (Ok s) e₄
      (λ y c.
      let f = transaction_sound line d Complete behind s c in
      subst (Form number line) (sym f.3) (rest, q, f.1, f.2, here (codes "*") (omega arith) y, f.4, f.5))
      (λ _ e₅.
      by_choice (is (codes "!")) (transaction_from line d Incomplete behind) unknown (Ok s) e₅
      (λ y c.
      let f = transaction_sound line d Incomplete behind s c in
      subst (Form number line) (sym f.3) (rest, q, f.1, f.2, here (codes "!") (omega arith) y, f.4, f.5))
      (λ _ z. err_ok z))))))
    where
      rest : List ℕ
      rest = drop behind line

      q : ℕ
      q = behind + 1

      here : (word : List ℕ) → 1 ≤ length word → is word ≡ true → Dated line d word rest q
      here word l y = dated_found d word (some_word word l) digit w ((bytes_eq-Decides word_at.text word).0 y)

  pub directive_sound : (number : ℕ) (s : Said) → (get_or line 0 0 ≡ 32 → ⊥) → directive_line number line ≡ Ok s → Form number line s
  unfolding directive_line dated_line dated_from
  directive_sound number s unspaced e =
      by_choice (is_ascii_digit (get_or line 0 0)) (dated_line line) other (Ok s) e
      (λ digit c.
      let a = from_and_then fault.Field (date_at (field_at line 0).text (field_at line 0).place) (λ (d : ℕ). dated_from line d (field_end line 0)) s c in
      by_word_sound number a.0 s digit (from_date (field_at line 0).text (field_at line 0).place a.0 a.1) a.2)
      (λ _ e₁.
      by_choice (eqb number 1 && bytes_eq (field_at line 0).text (codes "option")) (option_from line (field_end line 0)) (Err (fault.Form 1)) (Ok s) e₁
      (λ t c.
      let p = and_parts (eqb number 1) _ t in
      let o = option_sound line (field_end line 0) s c in
      let w : (field_at line 0).text ≡ codes "option" = (bytes_eq-Decides _ _).0 p.1 in
      subst (Form number line) (sym o.7) (
        eqb-true _ _ p.0,
        record {
          keyword = field_at line 0;
          name = o.0;
          value = o.3;
          after_keyword = drop (field_end line 0) line;
          at_name = field_end line 0 + 1;
          after_name = o.1;
          at_value = o.2;
          tail = o.5;
          at_tail = o.6;
          opens = found line (λ (t : List ℕ). t ≡ codes "option") (λ (z : [] ≡ codes "option"). some_word (codes "option") (omega arith) (sym z)) 0 w;
          first = first_place line unspaced;
          says = w;
          named = o.8;
          which = o.9;
          given = o.10;
          method = o.11;
          ends = o.12;
        },
      ))
      (λ _ z. err_ok z))
    where
      other : Result Said LineFault
      other = cond (eqb number 1 && bytes_eq (field_at line 0).text (codes "option")) (option_from line (field_end line 0)) (Err (fault.Form 1))

  -- what a form behind a date and a word says, moved to where the word ends
  moved : (P : ℕ → List ℕ → Type 0) (rest : List ℕ) (q : ℕ) → drop behind line ≡ rest → behind + 1 ≡ q → P q rest → P (behind + 1) (drop behind line)
  moved P rest q e f h = subst (λ (r : ℕ). P r (drop behind line)) (sym f) (subst (P q) (sym e) h)

  dated_reads : (number d : ℕ) (word rest : List ℕ) (q : ℕ) (s : Said) → Dated line d word rest q → by_word line d (record { text = word; place = word_at.place }) behind ≡ Ok s → directive_line number line ≡ Ok s
  unfolding directive_line dated_line dated_from
  dated_reads number d word rest q s h e =
      let o = dated_only d word rest q h in
      let digit = o.0 in
      let day = o.1 in
      let text = o.2 in
      rw (digit, day) (ap (λ (t : List ℕ). by_word line d (record { text = t; place = word_at.place }) behind) text ∙ e)

  pub directive_complete : (number : ℕ) (s : Said) → Form number line s → ((p : PostingSaid) → s ≡ posting p → ⊥) → directive_line number line ≡ Ok s
  unfolding directive_line
  directive_complete number (booking_method m) h n =
      let g = h.1 in
      let f = next_only line 0 g.keyword g.after_keyword g.at_name g.opens in
      let none : g.opens.gap ≡ [] = nil_from_length g.opens.gap (omega (arith, g.opens.place, g.first)) in
      let whole : line ≡ codes "option" ++ g.after_keyword =
      g.opens.spelled ∙ ap (λ (x : List ℕ). x ++ (g.keyword.text ++ g.after_keyword)) none ∙ ap (λ (x : List ℕ). x ++ g.after_keyword) g.says in
      let digit : is_ascii_digit (get_or line 0 0) ≡ false = ap (λ (x : List ℕ). is_ascii_digit (get_or x 0 0)) whole in
      let word : bytes_eq (field_at line 0).text (codes "option") ≡ true = (bytes_eq-Decides _ _).1 (ap (λ (x : Spot). x.text) f.0 ∙ g.says) in
      let first : eqb number 1 ≡ true = eq-eqb number 1 h.0 in
      let name = subst (λ (r : ℕ). Quoted r (drop (field_end line 0) line) g.name g.after_name g.at_value) (sym f.2) (subst (λ (x : List ℕ). Quoted g.at_name x g.name g.after_name g.at_value) (sym f.1) g.named) in
      let read = option_complete line (field_end line 0) g.name g.after_name g.at_value g.value m g.tail g.at_tail name g.which g.given g.method g.ends in
      rw (digit, first, word, read)
  directive_complete number (commodity d name) h n =
      let o = dated_only d (codes "commodity") h.0 h.1 h.2 in
      dated_reads number d (codes "commodity") h.0 h.1 _ h.2
      (commodity_complete line d behind name (moved (λ (q : ℕ) (rest : List ℕ). CommodityForm q rest name) h.0 h.1 o.3 o.4 h.3))
  directive_complete number (opening d account own) h n =
      let o = dated_only d (codes "open") h.0 h.1 h.2 in
      dated_reads number d (codes "open") h.0 h.1 _ h.2
      (open_complete line d behind account own (moved (λ (q : ℕ) (rest : List ℕ). OpenForm q rest account own) h.0 h.1 o.3 o.4 h.3))
  directive_complete number (closing d account) h n =
      let o = dated_only d (codes "close") h.0 h.1 h.2 in
      dated_reads number d (codes "close") h.0 h.1 _ h.2
      (close_complete line d behind account (moved (λ (q : ℕ) (rest : List ℕ). CloseForm q rest account) h.0 h.1 o.3 o.4 h.3))
  directive_complete number (balance d account m v c) h n =
      let o = dated_only d (codes "balance") h.0 h.1 h.2 in
      dated_reads number d (codes "balance") h.0 h.1 _ h.2
      (balance_complete line d behind account m v c (moved (λ (q : ℕ) (rest : List ℕ). Fields q rest (account ∷ m ∷ c ∷ [])) h.0 h.1 o.3 o.4 h.3) h.4 h.5 h.6)
  directive_complete number (transaction d Complete text) h n =
      let o = dated_only d (codes "*") h.0 h.1 h.4 in
      dated_reads number d (codes "*") h.0 h.1 _ h.4
      (transaction_complete line d Complete behind text h.2 h.3 (moved (λ (q : ℕ) (rest : List ℕ). Quoted q rest text h.2 h.3) h.0 h.1 o.3 o.4 h.5) h.6)
  directive_complete number (transaction d Incomplete text) h n =
      let o = dated_only d (codes "!") h.0 h.1 h.4 in
      dated_reads number d (codes "!") h.0 h.1 _ h.4
      (transaction_complete line d Incomplete behind text h.2 h.3 (moved (λ (q : ℕ) (rest : List ℕ). Quoted q rest text h.2 h.3) h.0 h.1 o.3 o.4 h.5) h.6)
  directive_complete number (posting p) h n = absurd (n p refl)

  -- a line in such a form starts with its first field
  digit_first : is_ascii_digit (get_or line 0 0) ≡ true → Starts (λ x. x ≡ 32 → ⊥) line
  digit_first h = grind (arith, nat_tests)

  pub form_first : (number : ℕ) (s : Said) → Form number line s → ((p : PostingSaid) → s ≡ posting p → ⊥) → Starts (λ x. x ≡ 32 → ⊥) line
  form_first number (booking_method m) h n = grind (arith, common_steps)
  form_first number (commodity d name) h n = digit_first (dated_only d (codes "commodity") h.0 h.1 h.2).0
  form_first number (opening d account own) h n = digit_first (dated_only d (codes "open") h.0 h.1 h.2).0
  form_first number (closing d account) h n = digit_first (dated_only d (codes "close") h.0 h.1 h.2).0
  form_first number (balance d account m v c) h n = digit_first (dated_only d (codes "balance") h.0 h.1 h.2).0
  form_first number (transaction d flag text) h n = digit_first (dated_only d (flag_sign flag) h.0 h.1 h.4).0
  form_first number (posting p) h n = absurd (n p refl)
