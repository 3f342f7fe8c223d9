-- The first field of a text, found and written.
use Rattle.std.proofs.Common.{◌≡◌, ℕ, ◌+◌, ◌<◌, ◌≤◌, Bool, true, false, not, eqb, List, [], ◌∷◌, ◌++◌, length, take, drop, sym, refl, ap, ◌∙◌, subst, ⊎_elim, arith}
use Rattle.std.specs.List.{prefix_len, AllByRecursion}
use Rattle.std.proofs.lemmas.List.{take-append-drop, drop-drop, take_at, drop_at, length-take, append-nil, drop_all}
use Rattle.std.proofs.lemmas.List.Sums.{prefix_len-le-length}
use Rattle.std.proofs.lemmas.Bool.{eqb-true, eqb-false, eq-eqb, ne_eqb, not-true, cases_lt}
use Rattle.byte_text.specs.Classes.{in_class, run_length, before}
use Rattle.byte_text.specs.declared.ByteClass.TheVariants.{Space, Except}
use Rattle.byte_text.proofs.Runs.{Halts, run_passes, run_halts, run_made}
use Rattle.fields.specs.Denotes.{FieldEnds}
use Rattle.fields.specs.Spots.{Spot}
use Rattle.lines.specs.Cuts.{field_start, field_end, field_text, field_at, missing}
use Rattle.lines.specs.Grammar.{Spaces, Word, Next}

-- spaces and the bytes of a word, tested and told

pub spaces_pass : (t : List ℕ) → Spaces t → AllByRecursion (λ b. in_class Space b ≡ true) t
spaces_pass [] h = tt
spaces_pass (b ∷ bs) h = (eq-eqb b 32 h.0, spaces_pass bs h.1)

pub pass_spaces : (t : List ℕ) → AllByRecursion (λ b. in_class Space b ≡ true) t → Spaces t
pass_spaces [] h = tt
pass_spaces (b ∷ bs) h = (eqb-true b 32 h.0, pass_spaces bs h.1)

pub unlike_pass : (c : ℕ) (t : List ℕ) → AllByRecursion (λ b. b ≡ c → ⊥) t → AllByRecursion (λ b. in_class (Except c) b ≡ true) t
unlike_pass c [] h = tt
unlike_pass c (b ∷ bs) h = (ap not (ne_eqb b c h.0), unlike_pass c bs h.1)

pub pass_unlike : (c : ℕ) (t : List ℕ) → AllByRecursion (λ b. in_class (Except c) b ≡ true) t → AllByRecursion (λ b. b ≡ c → ⊥) t
pass_unlike c [] h = tt
pass_unlike c (b ∷ bs) h = (eqb-false b c (not-true _ h.0), pass_unlike c bs h.1)

ends_halt : (rest : List ℕ) → FieldEnds rest → Halts (in_class (Except 32)) rest
ends_halt [] h = tt
ends_halt (b ∷ bs) h = ap not (eq-eqb b 32 h)

halt_ends : (rest : List ℕ) → Halts (in_class (Except 32)) rest → FieldEnds rest
halt_ends [] h = tt
halt_ends (b ∷ bs) h = eqb-true b 32 (not_false (eqb b 32) h)
  where
    not_false : (x : Bool) → not x ≡ false → x ≡ true
    not_false true e = refl
    not_false false e = sym e

-- a text that starts with no space
abbrev pub Opens : List ℕ → Type 0
Opens [] = Unit {0}
Opens (b ∷ bs) = b ≡ 32 → ⊥

pub opens_halt : (t : List ℕ) → Opens t → Halts (in_class Space) t
opens_halt [] h = tt
opens_halt (b ∷ bs) h = ne_eqb b 32 h

-- a word in front, and what follows it
pub word_opens : (w rest : List ℕ) → Word w → Opens (w ++ rest)
word_opens [] rest h = absurd (omega (arith, h.some))
word_opens (b ∷ bs) rest h = h.unspaced.0

abbrev spot : List ℕ → ℕ → Spot
spot t p = record { text = t; place = p }

pub same_spot : (s f : Spot) → s.text ≡ f.text → s.place ≡ f.place → s ≡ f
same_spot s f e h = ap (λ (t : List ℕ). spot t s.place) e ∙ ap (spot f.text) h

-- where the first field of the rest of a line stands

module _ (line : List ℕ) (from : ℕ) where
  abbrev pub here : List ℕ
  here = drop from line

  abbrev pub gap_length : ℕ
  gap_length = run_length Space here

  abbrev pub body : List ℕ
  body = drop gap_length here

  pub at_start : drop (field_start line from) line ≡ body
  unfolding field_start
  at_start = sym (drop-drop gap_length from line)

  pub text_is : field_text line from ≡ take (before 32 body) body
  unfolding field_text
  text_is = ap (λ (t : List ℕ). take (before 32 t) t) at_start

  pub end_is : field_end line from ≡ from + gap_length + before 32 body
  unfolding field_end field_start
  end_is = ap (λ (t : List ℕ). from + gap_length + before 32 t) (sym (drop-drop gap_length from line))

  pub start_is : field_start line from ≡ from + gap_length
  unfolding field_start
  start_is = refl

  pub at_end : drop (field_end line from) line ≡ drop (before 32 body) body
  at_end =
      ap (λ (n : ℕ). drop n line) end_is
      ∙ sym (drop-drop (before 32 body) (from + gap_length) line)
      ∙ ap (λ (t : List ℕ). drop (before 32 body) t) (sym (drop-drop gap_length from line))

  within : before 32 body ≤ length body
  within = prefix_len-le-length _ body

  text_length : length (field_text line from) ≡ before 32 body
  text_length = ap length text_is ∙ omega (arith, length-take (before 32 body) body, within)

  -- a field that is not missing stands there
  pub next_found : missing (field_at line from) ≡ false → Next (from + 1) here (field_at line from) (drop (field_end line from) line) (field_end line from + 1)
  next_found e =
      let some = eqb-false _ _ e in
      record {
        gap = take gap_length here;
        spelled =
            sym (take-append-drop gap_length here)
            ∙ ap (λ (t : List ℕ). take gap_length here ++ t)
            (sym (take-append-drop (before 32 body) body)
            ∙ ap (λ (t : List ℕ). t ++ drop (before 32 body) body) (sym text_is)
            ∙ ap (λ (t : List ℕ). field_text line from ++ t) (sym at_end));
        spaces = pass_spaces _ (run_passes (in_class Space) here);
        word =
            record {
              some = positive _ some;
              unspaced = pass_unlike 32 _ (subst (AllByRecursion (λ (b : ℕ). in_class (Except 32) b ≡ true)) (sym text_is) (run_passes (in_class (Except 32)) body));
            };
        place = omega (arith, start_is, length-take gap_length here, prefix_len-le-length (in_class Space) here);
        ends = subst FieldEnds (sym at_end) (halt_ends _ (run_halts (in_class (Except 32)) body));
        behind = omega (arith, end_is, start_is, text_length);
      }
    where
      positive : (n : ℕ) → (n ≡ 0 → ⊥) → 1 ≤ n
      positive n h = ⊎_elim (λ (l : 0 < n). omega arith) (λ (g : n ≤ 0). absurd (h (omega arith))) (cases_lt 0 n)

  -- nothing but spaces stands there
  pub none_found : missing (field_at line from) ≡ true → Spaces here
  none_found e =
      let none : before 32 body ≡ 0 = omega (arith, text_length, eqb-true _ _ e) in
      let no_body : body ≡ [] = no_word body (run_halts (in_class Space) here) none in
      let all : take gap_length here ≡ here =
      sym (append-nil (take gap_length here)) ∙ ap (λ (t : List ℕ). take gap_length here ++ t) (sym no_body) ∙ take-append-drop gap_length here in
      subst Spaces all (pass_spaces _ (run_passes (in_class Space) here))
    where
      no_word : (t : List ℕ) → Halts (in_class Space) t → before 32 t ≡ 0 → t ≡ []
      no_word [] h z = refl
      no_word (b ∷ bs) h z = let y = simp h at z in absurd (omega arith)

  pub none_only : Spaces here → missing (field_at line from) ≡ true
  none_only h =
      let all : gap_length ≡ length here = ap (prefix_len (in_class Space)) (sym (append-nil here)) ∙ run_made (in_class Space) here [] (spaces_pass here h) tt in
      let no_body : body ≡ [] = drop_all gap_length here (omega arith) in
      let no_text : field_text line from ≡ [] = text_is ∙ ap (λ (t : List ℕ). take (before 32 t) t) no_body in
      eq-eqb _ _ (ap length no_text)

  -- and what is written there is what is found
  pub next_only : (f : Spot) (rest : List ℕ) (q : ℕ) → Next (from + 1) here f rest q → (field_at line from ≡ f) × (drop (field_end line from) line ≡ rest) × (field_end line from + 1 ≡ q)
  next_only f rest q n =
      let w = f.text in
      let k : gap_length ≡ length n.gap =
      ap (prefix_len (in_class Space)) n.spelled ∙ run_made (in_class Space) n.gap (w ++ rest) (spaces_pass _ n.spaces) (opens_halt _ (word_opens w rest n.word)) in
      let body_is : body ≡ w ++ rest =
      ap (λ (m : ℕ). drop m here) k ∙ ap (drop (length n.gap)) n.spelled ∙ drop_at n.gap (w ++ rest) (length n.gap) refl in
      let m : before 32 (w ++ rest) ≡ length w = run_made (in_class (Except 32)) w rest (unlike_pass 32 w n.word.unspaced) (ends_halt rest n.ends) in
      let text : field_text line from ≡ w =
      text_is ∙ ap (λ (t : List ℕ). take (before 32 t) t) body_is ∙ ap (λ (j : ℕ). take j (w ++ rest)) m ∙ take_at w rest (length w) refl in
      let tail : drop (field_end line from) line ≡ rest =
      at_end ∙ ap (λ (t : List ℕ). drop (before 32 t) t) body_is ∙ ap (λ (j : ℕ). drop j (w ++ rest)) m ∙ drop_at w rest (length w) refl in
      let count : before 32 body ≡ length w = ap (before 32) body_is ∙ m in
      let place : field_start line from + 1 ≡ f.place = omega (arith, start_is, k, n.place) in
      (same_spot _ f text place, tail, omega (arith, end_is, k, count, n.place, n.behind))
