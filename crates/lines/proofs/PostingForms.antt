-- Posting lines say what they are written to say.
use Rattle.std.proofs.Common.{◌≡◌, ℕ, ◌+◌, ◌<◌, ◌≤◌, true, false, cond, eqb, List, [], ◌∷◌, ◌++◌, length, get_or, take, drop, ℤ, Some, None, Ok, Err, Option, Result, sym, refl, ap, ◌∙◌, subst, ⊎_elim, one-add, arith}
use Rattle.std.specs.List.{prefix_len}
use Rattle.std.proofs.lemmas.List.{take-append-drop, drop-drop, drop_more, take_at, drop_at, length-take, length-drop, length-append, get_or-take}
use Rattle.std.proofs.lemmas.List.Sums.{prefix_len-le-length}
use Rattle.std.proofs.lemmas.Bool.{cases_Bool, cases_lt, cond-true, cond-false, eqb-true, eqb-false, eq-eqb, ne_eqb}
use Rattle.byte_text.specs.Classes.{in_class, before}
use Rattle.byte_text.specs.declared.ByteClass.TheVariants.{Space, Except}
use Rattle.byte_text.proofs.Runs.{run_passes, run_made}
use Rattle.values.specs.Spelling.{IsCommodityName, IsAccountName}
use Rattle.fields.specs.Denotes.{Denotes, FieldEnds}
use Rattle.fields.specs.Numbers.{number_at}
use Rattle.fields.specs.Quoted.{ends_field}
use Rattle.fields.specs.Results.{and_then}
use Rattle.fields.specs.Spots.{Spot, commodity_at, account_at}
use Rattle.fields.proofs.Quotations.{ends_complete}
use Rattle.lines.specs.Braces.{inside}
use Rattle.lines.specs.Cuts.{field_start, field_text, field_at, field_end, missing}
use Rattle.lines.specs.Grammar.{Spaces, BracesForm, Braced, UnitsForm, PostingForm}
use Rattle.lines.specs.Postings.{ends_at, closed, braces_from, braces_at, units_at, posting_of}
use Rattle.lines.specs.Said.{BracesSaid, UnitsSaid, PostingSaid}
use Rattle.lines.specs.declared.fault.LineFault.{LineFault}
use Rattle.lines.specs.declared.fault.LineFault.TheVariants as fault
use Rattle.lines.proofs.Fronts.{here, gap_length, body, at_start, text_is, start_is, spaces_pass, pass_spaces, unlike_pass, none_found, none_only, next_only}
use Rattle.lines.proofs.Steps.{err_ok, same_ok, from_and_then, from_account, to_account, from_commodity, to_commodity, from_number, to_number, no_account, no_commodity, no_number, present, ends_found, ends_only, found, front_only, fields_only, fields_end, fields_none}
use Rattle.lines.proofs.Dated.{more}
use Rattle.lines.proofs.BraceForms.{inside_sound, inside_complete, braces_unlike}

-- spaces end a field
spaces_end : (t : List ℕ) → Spaces t → FieldEnds t
spaces_end [] h = tt
spaces_end (b ∷ bs) h = h.0

-- a text is cut where a byte first stands in it
cut_at : (c : ℕ) (t : List ℕ) → before c t < length t → t ≡ take (before c t) t ++ c ∷ drop (before c t + 1) t
cut_at c t l =
    sym (take-append-drop (before c t) t)
    ∙ ap (λ (x : List ℕ). take (before c t) t ++ x)
    (drop_more t (before c t) 0 l ∙ ap (λ (b : ℕ). b ∷ drop (before c t + 1) t) (byte_there c t l))
  where
    byte_there : (c : ℕ) (t : List ℕ) → before c t < length t → get_or t (before c t) 0 ≡ c
    byte_there c [] l = absurd (omega arith)
    byte_there c (b ∷ bs) l =
        ⊎_elim
        (λ (e : eqb b c ≡ true). rw e (eqb-true b c e))
        (λ (e : eqb b c ≡ false). let z = simp (e, one-add) at l in rw (e, one-add) (byte_there c bs (omega arith)))
        (cases_Bool (eqb b c))

module _ (line : List ℕ) where
  -- braces that open at a place: what stands in them, and spaces behind
  opened_sound : (brace : ℕ) (b : Option BracesSaid) → brace ≤ length line → braces_from line brace ≡ Ok b → (x : BracesSaid) × (ins : List ℕ) × (tail : List ℕ) × (b ≡ Some x) × (drop brace line ≡ ins ++ 125 ∷ tail) × Spaces tail × BracesForm (brace + 1) ins x
  unfolding braces_from
  opened_sound brace b l e =
      let t = drop brace line in
      let n = before 125 t in
      let size = length-drop brace line in
      ⊎_elim
      (λ (z : eqb (brace + n) (length line) ≡ true). err_ok (sym (cond-true _ _ (closed line brace n) z) ∙ e))
      (λ (z : eqb (brace + n) (length line) ≡ false).
      let g = sym (cond-false _ _ (closed line brace n) z) ∙ e in
      let short : n < length t = strictly n (length t) (prefix_len-le-length (in_class (Except 125)) t) (λ y. eqb-false _ _ z (omega (arith, size))) in
      ⊎_elim
      (λ (y : ends_field (drop (brace + n + 1) line) ≡ true).
      let h = sym (cond-true _ _ _ y) ∙ g in
      let a = from_and_then (λ (f : LineFault). f) (inside brace (record { text = take n t; place = brace + 1 })) (λ (x : BracesSaid). and_then (λ (f : LineFault). f) (ends_at line (brace + n + 1)) (λ _. Ok (Some x))) b h in
      let c = from_and_then (λ (f : LineFault). f) (ends_at line (brace + n + 1)) (λ _. Ok (Some a.0)) b a.2 in
      let behind : drop (n + 1) t ≡ drop (brace + n + 1) line = drop-drop (n + 1) brace line ∙ ap (λ (m : ℕ). drop m line) (omega arith) in (
        a.0,
        take n t,
        drop (n + 1) t,
        sym (same_ok c.2),
        cut_at 125 t short,
        subst Spaces (sym behind) (ends_found line (brace + n + 1) c.0 c.1),
        inside_sound brace (record { text = take n t; place = brace + 1 }) a.0 a.1,
      ))
      (λ (y : ends_field (drop (brace + n + 1) line) ≡ false). err_ok (sym (cond-false _ _ _ y) ∙ g))
      (cases_Bool (ends_field (drop (brace + n + 1) line))))
      (cases_Bool (eqb (brace + n) (length line)))
    where
      strictly : (m k : ℕ) → m ≤ k → (m ≡ k → ⊥) → m < k
      strictly m k l n = ⊎_elim (λ (h : m < k). h) (λ (g : k ≤ m). absurd (n (omega arith))) (cases_lt m k)

  opened_complete : (brace : ℕ) (x : BracesSaid) (ins tail : List ℕ) → brace ≤ length line → drop brace line ≡ ins ++ 125 ∷ tail → Spaces tail → BracesForm (brace + 1) ins x → braces_from line brace ≡ Ok (Some x)
  unfolding braces_from
  opened_complete brace x ins tail l e sp f =
      let t = drop brace line in
      let n : before 125 t ≡ length ins = ap (before 125) e ∙ run_made (in_class (Except 125)) ins (125 ∷ tail) (unlike_pass 125 ins (braces_unlike (brace + 1) ins x f)) refl in
      let size = length-drop brace line in
      let sum = ap length e ∙ length-append ins (125 ∷ tail) in
      let open_end : eqb (brace + before 125 t) (length line) ≡ false = ne_eqb _ _ (λ z. omega (arith, n, size, sum)) in
      let rest : drop (brace + before 125 t + 1) line ≡ tail =
      ap (λ (m : ℕ). drop m line) (omega (arith, n))
      ∙ sym (drop-drop (length ins + 1) brace line)
      ∙ ap (drop (length ins + 1)) e
      ∙ sym (drop-drop 1 (length ins) (ins ++ 125 ∷ tail))
      ∙ ap (drop 1) (drop_at ins (125 ∷ tail) (length ins) refl) in
      let ends : ends_field (drop (brace + before 125 t + 1) line) ≡ true = ap ends_field rest ∙ ends_complete tail (spaces_end tail sp) in
      let text : take (before 125 t) t ≡ ins = ap (λ (m : ℕ). take m t) n ∙ ap (take (length ins)) e ∙ take_at ins (125 ∷ tail) (length ins) refl in
      let read : inside brace (record { text = take (before 125 t) t; place = brace + 1 }) ≡ Ok x =
      ap (λ (w : List ℕ). inside brace (record { text = w; place = brace + 1 })) text ∙ inside_complete brace (record { text = ins; place = brace + 1 }) x f in
      let last_one = ends_only line (brace + before 125 t + 1) (subst Spaces (sym rest) sp) in
      rw (open_end, ends, read, last_one)

  -- braces, or nothing, behind a posting's units
  abbrev LotForm : ℕ → Option BracesSaid → Type 0
  LotForm from None = Spaces (drop from line)
  LotForm from (Some b) = Braced (from + 1) (drop from line) b

  opens_with : (c : ℕ) (t : List ℕ) (n : ℕ) → 1 ≤ n → (c ≡ 0 → ⊥) → get_or (take n t) 0 0 ≡ c → t ≡ c ∷ drop 1 t
  opens_with c [] n l z e = absurd (z (sym e ∙ get_or-take n [] 0 0 (omega arith)))
  opens_with c (b ∷ bs) n l z e = ap (λ (x : ℕ). x ∷ bs) (sym (get_or-take n (b ∷ bs) 0 0 (omega arith)) ∙ e)

  behind_brace : (from : ℕ) → drop (field_start line from + 1) line ≡ drop 1 (body line from)
  behind_brace from = sym (drop-drop 1 (field_start line from) line) ∙ ap (drop 1) (at_start line from)

  text_size : (from : ℕ) → length (field_text line from) ≡ before 32 (body line from)
  text_size from = ap length (text_is line from) ∙ omega (arith, length-take (before 32 (body line from)) (body line from), prefix_len-le-length (in_class (Except 32)) (body line from))

  lot_sound : (from : ℕ) (o : Option BracesSaid) → braces_at line from ≡ Ok o → LotForm from o
  unfolding braces_at
  lot_sound from o e =
      let s = field_at line from in
      ⊎_elim
      (λ (m : missing s ≡ true). subst (LotForm from) (same_ok (sym (cond-true _ _ _ m) ∙ e)) (none_found line from m))
      (λ (m : missing s ≡ false).
      let g = sym (cond-false _ (Ok None) (cond (eqb (get_or s.text 0 0) 123) (braces_from line s.place) (Err (fault.Form s.place))) m) ∙ e in
      ⊎_elim
      (λ (y : eqb (get_or s.text 0 0) 123 ≡ true).
      let some : 1 ≤ before 32 (body line from) = positive _ (λ z. eqb-false _ _ m (text_size from ∙ z)) in
      let byte : get_or (take (before 32 (body line from)) (body line from)) 0 0 ≡ 123 = ap (λ (t : List ℕ). get_or t 0 0) (sym (text_is line from)) ∙ eqb-true _ _ y in
      let whole = opens_with 123 (body line from) (before 32 (body line from)) some (λ z. omega arith) byte in
      let size = ap length (at_start line from) ∙ ap length whole in
      let fits : s.place ≤ length line = omega (arith, size, length-drop (field_start line from) line) in
      let a = opened_sound s.place o fits (sym (cond-true _ (braces_from line s.place) _ y) ∙ g) in
      let gap = take (gap_length line from) (here line from) in
      let gap_size : length gap ≡ gap_length line from = omega (arith, length-take (gap_length line from) (here line from), prefix_len-le-length (in_class Space) (here line from)) in
      let place : s.place + 1 ≡ from + 1 + length gap + 1 = omega (arith, start_is line from, gap_size) in
      subst (LotForm from) (sym a.3)
      (record {
        gap = gap;
        inside = a.1;
        tail = a.2;
        spelled =
            sym (take-append-drop (gap_length line from) (here line from))
            ∙ ap (λ (t : List ℕ). gap ++ t) (whole ∙ ap (λ (t : List ℕ). 123 ∷ t) (sym (behind_brace from) ∙ a.4));
        spaces = pass_spaces _ (run_passes (in_class Space) (here line from));
        spaces_behind = a.5;
        form = subst (λ (p : ℕ). BracesForm p a.1 a.0) place a.6;
      }))
      (λ (y : eqb (get_or s.text 0 0) 123 ≡ false). err_ok (sym (cond-false _ (braces_from line s.place) _ y) ∙ g))
      (cases_Bool (eqb (get_or s.text 0 0) 123)))
      (cases_Bool (missing s))
    where
      positive : (n : ℕ) → (n ≡ 0 → ⊥) → 1 ≤ n
      positive n h = ⊎_elim (λ (l : 0 < n). omega arith) (λ (g : n ≤ 0). absurd (h (omega arith))) (cases_lt 0 n)

  lot_complete : (from : ℕ) (o : Option BracesSaid) → LotForm from o → braces_at line from ≡ Ok o
  unfolding braces_at
  lot_complete from None h = cond-true _ _ _ (none_only line from h)
  lot_complete from (Some x) h =
      let s = field_at line from in
      let r = h.inside ++ 125 ∷ h.tail in
      let k : gap_length line from ≡ length h.gap = ap (prefix_len (in_class Space)) h.spelled ∙ run_made (in_class Space) h.gap (123 ∷ r) (spaces_pass _ h.spaces) refl in
      let whole : body line from ≡ 123 ∷ r =
      ap (λ (m : ℕ). drop m (here line from)) k ∙ ap (drop (length h.gap)) h.spelled ∙ drop_at h.gap (123 ∷ r) (length h.gap) refl in
      let text : s.text ≡ 123 ∷ take (before 32 r) r = text_is line from ∙ ap (λ (t : List ℕ). take (before 32 t) t) whole ∙ rw one-add in
      let m : missing s ≡ false = ne_eqb _ _ (λ z. omega (arith, ap length text)) in
      let y : eqb (get_or s.text 0 0) 123 ≡ true = eq-eqb _ _ (ap (λ (t : List ℕ). get_or t 0 0) text) in
      let rest : drop s.place line ≡ r = behind_brace from ∙ ap (drop 1) whole in
      let size = ap length (at_start line from) ∙ ap length whole in
      let fits : s.place ≤ length line = omega (arith, size, length-drop (field_start line from) line) in
      let place : from + 1 + length h.gap + 1 ≡ s.place + 1 = omega (arith, start_is line from, k) in
      let read = opened_complete s.place x h.inside h.tail fits rest h.spaces_behind (subst (λ (p : ℕ). BracesForm p h.inside x) place h.form) in
      rw (m, y, read)

  -- units

  units_made : (from : ℕ) (v : ℤ) (o : Option BracesSaid) → Denotes (field_at line from).text v → IsCommodityName (field_at line (field_end line from)).text → LotForm (field_end line (field_end line from)) o → UnitsForm (from + 1) (drop from line) (record { number = field_at line from; hundredths = v; commodity = field_at line (field_end line from); braces = o }) o
  units_made from v None d c h = (
    more line (λ (t : List ℕ). Denotes t v) (no_number v) from (field_at line (field_end line from) ∷ []) d
        (more line IsCommodityName no_commodity (field_end line from) [] c (fields_end _ (drop (field_end line (field_end line from)) line) h)),
    d,
    c,
  )
  units_made from v (Some b) d c h = (
    drop (field_end line (field_end line from)) line,
    field_end line (field_end line from) + 1,
    (
      drop (field_end line from) line,
      field_end line from + 1,
      found line (λ (t : List ℕ). Denotes t v) (no_number v) from d,
      (drop (field_end line (field_end line from)) line, field_end line (field_end line from) + 1, found line IsCommodityName no_commodity (field_end line from) c, (refl, refl)),
    ),
    d,
    c,
    h,
  )

  pub units_sound : (from : ℕ) (u : UnitsSaid) → units_at line from ≡ Ok u → UnitsForm (from + 1) (drop from line) u u.braces
  unfolding units_at
  units_sound from u e =
      let n = field_at line from in
      let end = field_end line from in
      let a = from_and_then fault.Field (number_at n.text n.place) (λ (v : ℤ). and_then fault.Field (commodity_at (field_at line end)) (λ (c : Spot). and_then (λ (f : LineFault). f) (braces_at line (field_end line end)) (λ (b : Option BracesSaid). Ok (record { number = n; hundredths = v; commodity = c; braces = b })))) u e in
      let b = from_and_then fault.Field (commodity_at (field_at line end)) (λ (c : Spot). and_then (λ (f : LineFault). f) (braces_at line (field_end line end)) (λ (b : Option BracesSaid). Ok (record { number = n; hundredths = a.0; commodity = c; braces = b }))) u a.2 in
      let c = from_and_then (λ (f : LineFault). f) (braces_at line (field_end line end)) (λ (o : Option BracesSaid). Ok (record { number = n; hundredths = a.0; commodity = b.0; braces = o })) u b.2 in
      let own = from_commodity (field_at line end) b.0 b.1 in
      let same : ◌≡◌ {A = UnitsSaid} (record { number = n; hundredths = a.0; commodity = field_at line end; braces = c.0 }) u = ap (λ (x : Spot). record { number = n; hundredths = a.0; commodity = x; braces = c.0 }) own.0 ∙ same_ok c.2 in
      subst (λ (x : UnitsSaid). UnitsForm (from + 1) (drop from line) x x.braces) same
      (units_made from a.0 c.0 (from_number n.text n.place a.0 a.1) own.1 (lot_sound (field_end line end) c.0 c.1))

  -- what is written is at hand: number, commodity and braces
  units_there : (from : ℕ) (u : UnitsSaid) (o : Option BracesSaid) → UnitsForm (from + 1) (drop from line) u o → (field_at line from ≡ u.number) × Denotes u.number.text u.hundredths × (field_at line (field_end line from) ≡ u.commodity) × IsCommodityName u.commodity.text × LotForm (field_end line (field_end line from)) o
  units_there from u None h =
      let a = fields_only line from u.number (u.commodity ∷ []) h.0 in
      let b = fields_only line (field_end line from) u.commodity [] a.1 in
      (a.0, h.1, b.0, h.2, fields_none _ (drop (field_end line (field_end line from)) line) b.1)
  units_there from u (Some x) h =
      let a = front_only line from u.number (u.commodity ∷ []) h.0 h.1 h.2 in
      let b = front_only line (field_end line from) u.commodity [] h.0 h.1 a.1 in
      let end = field_end line (field_end line from) in (
        a.0,
        h.3,
        b.0,
        h.4,
        subst (λ (r : ℕ). Braced r (drop end line) x) (sym b.1.1) (subst (λ (t : List ℕ). Braced h.1 t x) (sym b.1.0) h.5),
      )

  pub units_complete : (from : ℕ) (u : UnitsSaid) → UnitsForm (from + 1) (drop from line) u u.braces → units_at line from ≡ Ok u
  unfolding units_at
  units_complete from u h =
      let p = units_there from u u.braces h in
      let n : number_at (field_at line from).text (field_at line from).place ≡ Ok u.hundredths = ap (λ (s : Spot). number_at s.text s.place) p.0 ∙ to_number u.number.text u.number.place u.hundredths p.1 in
      let c : commodity_at (field_at line (field_end line from)) ≡ Ok u.commodity = ap commodity_at p.2 ∙ to_commodity u.commodity p.3 in
      let b = lot_complete (field_end line (field_end line from)) u.braces p.4 in
      rw (n, c, b) (ap (λ (s : Spot). Ok (record { number = s; hundredths = u.hundredths; commodity = u.commodity; braces = u.braces })) p.0)

  -- whole postings

  pub posting_sound : (p : PostingSaid) → posting_of line ≡ Ok p → PostingForm line p.account p.units
  unfolding posting_of
  posting_sound p e =
      let end = field_end line 0 in
      let k : Spot → Result PostingSaid LineFault = λ account. cond (missing (field_at line end)) (Ok (record { account = account; units = None })) (and_then (λ (f : LineFault). f) (units_at line end) (λ (u : UnitsSaid). Ok (record { account = account; units = Some u }))) in
      let a = from_and_then fault.Field (account_at (field_at line 0)) k p e in
      let n = from_account (field_at line 0) a.0 a.1 in
      let first = found line IsAccountName no_account 0 n.1 in
      ⊎_elim
      (λ (m : missing (field_at line end) ≡ true).
      let same : ◌≡◌ {A = PostingSaid} (record { account = field_at line 0; units = None }) p = ap (λ (x : Spot). record { account = x; units = None }) n.0 ∙ same_ok (sym (cond-true _ _ _ m) ∙ a.2) in
      subst (λ (x : PostingSaid). PostingForm line x.account x.units) same
      (more line IsAccountName no_account 0 [] n.1 (fields_end _ (drop end line) (none_found line end m)), n.1))
      (λ (m : missing (field_at line end) ≡ false).
      let b = from_and_then (λ (f : LineFault). f) (units_at line end) (λ (u : UnitsSaid). Ok (record { account = a.0; units = Some u })) p (sym (cond-false _ (Ok (record { account = a.0; units = None })) _ m) ∙ a.2) in
      let same : ◌≡◌ {A = PostingSaid} (record { account = field_at line 0; units = Some b.0 }) p = ap (λ (x : Spot). record { account = x; units = Some b.0 }) n.0 ∙ same_ok b.2 in
      subst (λ (x : PostingSaid). PostingForm line x.account x.units) same
      (drop end line, end + 1, first, n.1, units_sound end b.0 b.1))
      (cases_Bool (missing (field_at line end)))

  pub posting_complete : (account : Spot) (units : Option UnitsSaid) → PostingForm line account units → posting_of line ≡ Ok (record { account = account; units = units })
  unfolding posting_of
  posting_complete account None h =
      let o = fields_only line 0 account [] h.0 in
      let a : account_at (field_at line 0) ≡ Ok account = ap account_at o.0 ∙ to_account account h.1 in
      let m = none_only line (field_end line 0) (fields_none _ (drop (field_end line 0) line) o.1) in
      rw (a, m)
  posting_complete account (Some u) h =
      let o = next_only line 0 account h.0 h.1 h.2 in
      let a : account_at (field_at line 0) ≡ Ok account = ap account_at o.0 ∙ to_account account h.3 in
      let form = subst (λ (q : ℕ). UnitsForm q (drop (field_end line 0) line) u u.braces) (sym o.2) (subst (λ (t : List ℕ). UnitsForm h.1 t u u.braces) (sym o.1) h.4) in
      let p = units_there (field_end line 0) u u.braces form in
      let m : missing (field_at line (field_end line 0)) ≡ false = ap missing p.0 ∙ present (λ (t : List ℕ). Denotes t u.hundredths) (no_number u.hundredths) u.number p.1 in
      let b = units_complete (field_end line 0) u form in
      rw (a, m, b)
