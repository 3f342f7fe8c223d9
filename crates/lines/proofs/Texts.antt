-- Quoted texts in a line, found and written: transactions and the option.
use Rattle.std.proofs.lemmas.Grind.{common_steps}
use Rattle.std.proofs.lemmas.Bool.Decides.{nat_tests}
use Rattle.std.proofs.Common.{◌≡◌, ℕ, ◌+◌, true, false, cond, List, ◌∷◌, ◌++◌, length, take, drop, Some, None, Ok, Err, codes, Option, Result, sym, refl, ap, ◌∙◌, subst, ⊎_elim, rules, tests, arith}
use Rattle.std.specs.List.{prefix_len}
use Rattle.std.proofs.lemmas.Slice.Eq.{bytes_eq-Decides}
use Rattle.std.proofs.lemmas.List.{take-append-drop, drop-drop, take_at, drop_at}
use Rattle.std.proofs.lemmas.Bool.{cases_Bool}
use Rattle.byte_text.specs.Classes.{in_class}
use Rattle.byte_text.specs.declared.ByteClass.TheVariants.{Space}
use Rattle.byte_text.proofs.Runs.{run_passes, run_made}
use Rattle.fields.specs.Denotes.{Quotes}
use Rattle.fields.specs.Quoted.{quoted_length, quoted_at}
use Rattle.fields.specs.Results.{and_then}
use Rattle.fields.specs.Spots.{Spot}
use Rattle.fields.proofs.Quotations.{quoted_sound, quoted_complete, behind}
use Rattle.lines.specs.Cuts.{field_start, rest_at}
use Rattle.lines.specs.Directives.{QuotedSaid, quoted_from, transaction_from, method_named, method_or, method_from, is_method_option, option_from}
use Rattle.lines.specs.Grammar.{Spaces, Quoted, method_name}
use Rattle.lines.specs.Postings.{ends_at}
use Rattle.lines.specs.Said.{Said, booking_method, transaction}
use Rattle.values.specs.declared.flag.Flag.{Flag}
use Rattle.lines.specs.declared.directive.Method.{Method}
use Rattle.lines.specs.declared.directive.Method.TheVariants.{Strict, Fifo, Lifo}
use Rattle.lines.specs.declared.fault.LineFault.{LineFault}
use Rattle.lines.specs.declared.fault.LineFault.TheVariants as fault
use Rattle.lines.proofs.Fronts.{gap_length, here, at_start, start_is, spaces_pass, pass_spaces, same_spot}
use Rattle.lines.proofs.Steps.{err_ok, same_ok, from_and_then, ends_found, ends_only}

same_some : {A : Type 0} {x y : A} → Some x ≡ Some y → x ≡ y
same_some e = cc

module _ (line : List ℕ) where
  -- what a quoted text comes to, from a start in the line
  abbrev shown : Spot → ℕ → Spot
  shown s n = record { text = take n (drop 1 s.text); place = s.place }

  from_quoted : (s t : Spot) → quoted_at s ≡ Ok t → (n : ℕ) × (quoted_length s.text ≡ Some n) × (shown s n ≡ t)
  unfolding quoted_at
  from_quoted s t e = grind (arith, nat_tests)

  to_quoted : (s : Spot) (n : ℕ) → quoted_length s.text ≡ Some n → quoted_at s ≡ Ok (shown s n)
  unfolding quoted_at
  to_quoted s n e = cc

  abbrev start : ℕ → Spot
  start from = rest_at line from

  gap_size : (from : ℕ) → length (take (gap_length line from) (here line from)) ≡ gap_length line from
  gap_size from = grind (arith, common_steps)

  pub quoted_found : (from : ℕ) (q : QuotedSaid) → quoted_from line from ≡ Ok q → Quoted (from + 1) (drop from line) q.text (drop q.end line) (q.end + 1)
  unfolding quoted_from
  quoted_found from q e =
      let s = start from in
      let k : Spot → Result QuotedSaid LineFault = λ text. Ok (record { text = text; end = s.place + length text.text + 1 }) in
      let a = from_and_then fault.Field (quoted_at s) k q e in
      let t = a.0 in
      let f = from_quoted s t a.1 in
      let said : ◌≡◌ {A = QuotedSaid} (record { text = t; end = s.place + length t.text + 1 }) q = same_ok a.2 in
      let text : take f.0 (drop 1 s.text) ≡ t.text = ap (λ (x : Spot). x.text) f.2 in
      let quotes = subst (λ (c : List ℕ). Quotes s.text c (drop (f.0 + 2) s.text)) text (quoted_sound s.text f.0 f.1) in
      let count : length t.text ≡ f.0 = same_some (sym (quoted_complete s.text t.text (drop (f.0 + 2) s.text) quotes) ∙ f.1) in
      let stop : s.place + length t.text + 1 ≡ field_start line from + (f.0 + 2) = omega (arith, count) in
      let rest : drop (f.0 + 2) s.text ≡ drop (s.place + length t.text + 1) line =
      drop-drop (f.0 + 2) (field_start line from) line ∙ ap (λ (n : ℕ). drop n line) (sym stop) in
      let place : t.place ≡ from + 1 + length (take (gap_length line from) (here line from)) =
      sym (ap (λ (x : Spot). x.place) f.2) ∙ omega (arith, start_is line from, gap_size from) in
      subst (λ (x : QuotedSaid). Quoted (from + 1) (drop from line) x.text (drop x.end line) (x.end + 1)) said
      (record {
        gap = take (gap_length line from) (here line from);
        after = s.text;
        spelled =
            sym (take-append-drop (gap_length line from) (here line from))
            ∙ ap (λ (x : List ℕ). take (gap_length line from) (here line from) ++ x) (sym (at_start line from));
        spaces = pass_spaces _ (run_passes (in_class Space) (here line from));
        quotes = subst (Quotes s.text t.text) rest quotes;
        place = place;
        behind = omega (arith, ap (λ (x : Spot). x.place) f.2);
      })

  pub quoted_only : (from : ℕ) (f : Spot) (rest : List ℕ) (q : ℕ) → Quoted (from + 1) (drop from line) f rest q → (e : ℕ) × (q ≡ e + 1) × (drop e line ≡ rest) × (quoted_from line from ≡ Ok (record { text = f; end = e }))
  unfolding quoted_from
  quoted_only from f rest q h =
      let s = start from in
      let content = f.text in
      let opened : h.after ≡ 34 ∷ (content ++ 34 ∷ rest) = h.quotes.spelled in
      let k : gap_length line from ≡ length h.gap =
      ap (prefix_len (in_class Space)) (h.spelled ∙ ap (λ (x : List ℕ). h.gap ++ x) opened)
      ∙ run_made (in_class Space) h.gap (34 ∷ (content ++ 34 ∷ rest)) (spaces_pass _ h.spaces) refl in
      let text : s.text ≡ h.after =
      at_start line from
      ∙ ap (λ (m : ℕ). drop m (here line from)) k
      ∙ ap (drop (length h.gap)) h.spelled
      ∙ drop_at h.gap h.after (length h.gap) refl in
      let place : s.place ≡ f.place = omega (arith, start_is line from, k, h.place) in
      let count : quoted_length s.text ≡ Some (length content) = ap quoted_length text ∙ quoted_complete h.after content rest h.quotes in
      let inner : take (length content) (drop 1 s.text) ≡ content =
      ap (λ (x : List ℕ). take (length content) (drop 1 x)) (text ∙ opened) ∙ take_at content (34 ∷ rest) (length content) refl in
      let found : quoted_at s ≡ Ok f = to_quoted s (length content) count ∙ ap Ok (same_spot (shown s (length content)) f inner place) in
      let e = s.place + length content + 1 in
      let stop : e ≡ field_start line from + (length content + 2) = omega arith in
      let tail : drop e line ≡ rest =
      ap (λ (n : ℕ). drop n line) stop
      ∙ sym (drop-drop (length content + 2) (field_start line from) line)
      ∙ ap (drop (length content + 2)) (text ∙ opened)
      ∙ behind content rest in
      (e, omega (arith, place, h.behind), tail, rw found)

  pub transaction_sound : (d : ℕ) (flag : Flag) (from : ℕ) (s : Said) → transaction_from line d flag from ≡ Ok s → (text : Spot) × (tail : List ℕ) × (r : ℕ) × (s ≡ transaction d flag text) × Quoted (from + 1) (drop from line) text tail r × Spaces tail
  unfolding transaction_from
  transaction_sound d flag from s e =
      let a = from_and_then (λ (f : LineFault). f) (quoted_from line from) (λ (q : QuotedSaid). and_then (λ (f : LineFault). f) (ends_at line q.end) (λ _. Ok (transaction d flag q.text))) s e in
      let q = a.0 in
      let b = from_and_then (λ (f : LineFault). f) (ends_at line q.end) (λ _. Ok (transaction d flag q.text)) s a.2 in
      (q.text, drop q.end line, q.end + 1, sym (same_ok b.2), quoted_found from q a.1, ends_found line q.end b.0 b.1)

  pub transaction_complete : (d : ℕ) (flag : Flag) (from : ℕ) (text : Spot) (tail : List ℕ) (r : ℕ) → Quoted (from + 1) (drop from line) text tail r → Spaces tail → transaction_from line d flag from ≡ Ok (transaction d flag text)
  unfolding transaction_from
  transaction_complete d flag from text tail r h sp =
      let o = quoted_only from text tail r h in
      let q = o.3 in
      let e = ends_only line o.0 (subst Spaces (sym o.2) sp) in
      rw (q, e)

  -- the methods by their names
  method_sound : (name : List ℕ) (m : Method) → method_named name ≡ Some m → name ≡ method_name m
  method_sound name m e = search (rules, tests)

  method_complete : (m : Method) → method_named (method_name m) ≡ Some m
  method_complete Strict = refl
  method_complete Fifo = refl
  method_complete Lifo = refl

  from_method : (place : ℕ) (o : Option Method) (m : Method) → method_or place o ≡ Ok m → o ≡ Some m
  from_method place None m e = err_ok e
  from_method place (Some n) m e = ap Some (same_ok e)

  -- the option's value
  value_sound : (from : ℕ) (s : Said) → method_from line from ≡ Ok s → (value : Spot) × (m : Method) × (tail : List ℕ) × (r : ℕ) × (s ≡ booking_method m) × Quoted (from + 1) (drop from line) value tail r × (value.text ≡ method_name m) × Spaces tail
  unfolding method_from
  value_sound from s e =
      let a = from_and_then (λ (f : LineFault). f) (quoted_from line from) (λ (v : QuotedSaid). and_then (λ (f : LineFault). f) (method_or v.text.place (method_named v.text.text)) (λ (m : Method). and_then (λ (f : LineFault). f) (ends_at line v.end) (λ _. Ok (booking_method m)))) s e in
      let q = a.0 in
      let b = from_and_then (λ (f : LineFault). f) (method_or q.text.place (method_named q.text.text)) (λ (m : Method). and_then (λ (f : LineFault). f) (ends_at line q.end) (λ _. Ok (booking_method m))) s a.2 in
      let c = from_and_then (λ (f : LineFault). f) (ends_at line q.end) (λ _. Ok (booking_method b.0)) s b.2 in (
        q.text,
        b.0,
        drop q.end line,
        q.end + 1,
        sym (same_ok c.2),
        quoted_found from q a.1,
        method_sound q.text.text b.0 (from_method q.text.place _ b.0 b.1),
        ends_found line q.end c.0 c.1,
      )

  value_complete : (from : ℕ) (value : Spot) (m : Method) (tail : List ℕ) (r : ℕ) → Quoted (from + 1) (drop from line) value tail r → value.text ≡ method_name m → Spaces tail → method_from line from ≡ Ok (booking_method m)
  unfolding method_from
  value_complete from value m tail r h n sp =
      let o = quoted_only from value tail r h in
      let q = o.3 in
      let w : method_or value.place (method_named value.text) ≡ Ok m = ap (method_or value.place) (ap method_named n ∙ method_complete m) in
      let e = ends_only line o.0 (subst Spaces (sym o.2) sp) in
      rw (q, w, e)

  pub option_sound : (from : ℕ) (s : Said) → option_from line from ≡ Ok s → (name : Spot) × (r₁ : List ℕ) × (q₁ : ℕ) × (value : Spot) × (m : Method) × (r₂ : List ℕ) × (q₂ : ℕ) × (s ≡ booking_method m) × Quoted (from + 1) (drop from line) name r₁ q₁ × (name.text ≡ codes "booking_method") × Quoted q₁ r₁ value r₂ q₂ × (value.text ≡ method_name m) × Spaces r₂
  unfolding option_from is_method_option
  option_sound from s e =
      let a = from_and_then (λ (f : LineFault). f) (quoted_from line from) (λ (n : QuotedSaid). cond (is_method_option n.text.text) (method_from line n.end) (Err (fault.Form n.text.place))) s e in
      let q = a.0 in
      ⊎_elim
      (λ (y : is_method_option q.text.text ≡ true).
      let v = value_sound q.end s (rw y at a.2) in (
        q.text,
        drop q.end line,
        q.end + 1,
        v.0,
        v.1,
        v.2,
        v.3,
        v.4,
        quoted_found from q a.1,
        (bytes_eq-Decides _ _).0 y,
        v.5,
        v.6,
        v.7,
      ))
      (λ (n : is_method_option q.text.text ≡ false). err_ok (rw n at a.2))
      (cases_Bool (is_method_option q.text.text))

  pub option_complete : (from : ℕ) (name : Spot) (r₁ : List ℕ) (q₁ : ℕ) (value : Spot) (m : Method) (r₂ : List ℕ) (q₂ : ℕ) → Quoted (from + 1) (drop from line) name r₁ q₁ → name.text ≡ codes "booking_method" → Quoted q₁ r₁ value r₂ q₂ → value.text ≡ method_name m → Spaces r₂ → option_from line from ≡ Ok (booking_method m)
  unfolding option_from is_method_option
  option_complete from name r₁ q₁ value m r₂ q₂ h n g v sp =
      let o = quoted_only from name r₁ q₁ h in
      let q = o.3 in
      let t : is_method_option name.text ≡ true = (bytes_eq-Decides _ _).1 n in
      let moved = subst (λ (r : ℕ). Quoted r (drop o.0 line) value r₂ q₂) o.1 (subst (λ (x : List ℕ). Quoted q₁ x value r₂ q₂) (sym o.2) g) in
      let w = value_complete o.0 value m r₂ q₂ moved v sp in
      rw (q, t, w)
