-- What stands between braces is read as it is written.
use Rattle.std.proofs.Common.{◌≡◌, ℕ, suc, ◌+◌, ◌<◌, ◌≤◌, Bool, true, false, cond, not, ◌&&◌, eqb, ltb, leb, ◌⊎◌, List, [], ◌∷◌, ◌++◌, length, get_or, take, drop, ℤ, Some, None, Ok, Err, Option, sym, refl, ap, ◌∙◌, subst, ⊎_elim, one-add, arith}
use Rattle.std.specs.Option.{option_map}
use Rattle.std.specs.List.{prefix_len, AllByRecursion}
use Rattle.std.proofs.ByRecursion.{All-append, All-weaker}
use Rattle.std.proofs.lemmas.List.{take-append-drop, drop-drop, take_at, drop_at, length-take, length-append, nil_from_length}
use Rattle.std.proofs.lemmas.List.Sums.{prefix_len-le-length}
use Rattle.std.proofs.lemmas.Bool.{cases_Bool, cond-true, cond-false, and_parts, and_from, and_left, and_right, leb-true, le-leb, ltb-true, lt-ltb, le-ltb, eqb-true, eqb-false, eq-eqb, ne_eqb, not-true}
use Rattle.byte_text.specs.Classes.{in_class, all_in, run_length, before}
use Rattle.byte_text.specs.declared.ByteClass.TheVariants.{Space, Except}
use Rattle.byte_text.proofs.Runs.{Halts, run_passes, run_halts, run_made}
use Rattle.values.specs.Spelling.{Starts, Capital, Digit, IsCommodityName}
use Rattle.fields.specs.Dates.{date_at}
use Rattle.fields.specs.Denotes.{sign, point, Denotes, WritesDate}
use Rattle.fields.specs.Numbers.{number_at, has_minus}
use Rattle.fields.specs.Results.{bind, and_then}
use Rattle.fields.specs.Spots.{Spot, commodity_at}
use Rattle.lines.specs.Braces.{before_separator, is_word, Words, gap_end, two_words, Shape, no_part, cost_part, date_part, both_parts, word_at, part_after, part_before, two_parts, one_part, shape, cost_in, date_in, inside_by, inside, parts_cut, shape_by}
use Rattle.lines.specs.Cuts.{missing}
use Rattle.lines.specs.Grammar.{Spaces, Word, CostForm, BracesForm}
use Rattle.lines.specs.Said.{CostSaid, BracesSaid, empty, cost, date, cost_and_date}
use Rattle.lines.specs.declared.fault.LineFault.{LineFault}
use Rattle.lines.specs.declared.fault.LineFault.TheVariants as fault
use Rattle.lines.proofs.Fronts.{spaces_pass, pass_spaces, unlike_pass, Opens, opens_halt}
use Rattle.lines.proofs.Steps.{err_ok, same_ok, from_and_then, from_commodity, to_commodity, from_number, to_number, from_date, to_date, no_date, no_number}

-- bytes of numbers, dates and commodities: none is a space, a comma or a brace

abbrev pub Plain : ℕ → Type 0
Plain b = (45 ≤ b) × (b ≤ 90)

digits_plain : (t : List ℕ) → AllByRecursion Digit t → AllByRecursion Plain t
digits_plain t h = All-weaker Digit Plain (λ b d. (omega arith, omega arith)) t h

point_plain : (t : List ℕ) → AllByRecursion Digit t → AllByRecursion Plain (point t)
point_plain [] h = tt
point_plain (b ∷ bs) h = ((omega arith, omega arith), digits_plain (b ∷ bs) h)

sign_plain : (m : Bool) → AllByRecursion Plain (sign m)
sign_plain true = ((omega arith, omega arith), tt)
sign_plain false = tt

pub number_plain : (t : List ℕ) (v : ℤ) → Denotes t v → AllByRecursion Plain t
number_plain t v d =
    let m = d.0 in
    subst (AllByRecursion Plain) (sym d.2)
    (All-append Plain (sign m.minus) (m.whole ++ point m.decimals) (sign_plain m.minus)
    (All-append Plain m.whole (point m.decimals) (digits_plain _ d.1.whole_digits) (point_plain _ d.1.decimal_digits)))

pub date_plain : (t : List ℕ) (n : ℕ) → WritesDate t n → AllByRecursion Plain t
date_plain t n w =
    let s = w.0 in
    let hyphen : Plain 45 = (omega arith, omega arith) in
    subst (AllByRecursion Plain) (sym s.spelled)
    (All-append Plain s.year (45 ∷ (s.month ++ 45 ∷ s.day)) (digits_plain _ s.digits.0)
    (hyphen, All-append Plain s.month (45 ∷ s.day) (digits_plain _ s.digits.1) (hyphen, digits_plain _ s.digits.2)))

pub name_plain : (t : List ℕ) → IsCommodityName t → AllByRecursion Plain t
name_plain t c = All-weaker (λ b. Capital b ⊎ Digit b) Plain (λ b h. ⊎_elim (λ u. (omega arith, omega arith)) (λ d. (omega arith, omega arith)) h) t c.capitals_or_digits

pub plain_unlike : (c : ℕ) → (Plain c → ⊥) → (t : List ℕ) → AllByRecursion Plain t → AllByRecursion (λ b. b ≡ c → ⊥) t
plain_unlike c n t h = All-weaker Plain (λ b. b ≡ c → ⊥) (λ b p e. n (subst Plain e p)) t h

-- words

word_test : (t : List ℕ) → 1 ≤ length t → AllByRecursion (λ b. b ≡ 32 → ⊥) t → is_word t ≡ true
word_test t l h = and_from _ _ (le-leb 1 (length t) l) (passes t h)
  where
    passes : (t : List ℕ) → AllByRecursion (λ b. b ≡ 32 → ⊥) t → all_in (Except 32) t ≡ true
    passes [] h = refl
    passes (b ∷ bs) h = and_from _ _ (ap not (ne_eqb b 32 h.0)) (passes bs h.1)

word_told : (t : List ℕ) → is_word t ≡ true → Word t
word_told t e =
    let p = and_parts (leb 1 (length t)) _ e in
    record { some = leb-true _ _ p.0; unspaced = told t p.1 }
  where
    told : (t : List ℕ) → all_in (Except 32) t ≡ true → AllByRecursion (λ b. b ≡ 32 → ⊥) t
    told [] e = tt
    told (b ∷ bs) e = let p = and_parts (not (eqb b 32)) _ e in (eqb-false b 32 (not-true _ p.0), told bs p.1)

-- a text with a space in it is no word
spaced_test : (n gap c : List ℕ) → Spaces gap → 1 ≤ length gap → is_word (n ++ (gap ++ c)) ≡ false
spaced_test n gap c s l = and_right _ _ (fails n gap c s l)
  where
    fails : (n gap c : List ℕ) → Spaces gap → 1 ≤ length gap → all_in (Except 32) (n ++ (gap ++ c)) ≡ false
    fails [] [] c s l = absurd (omega arith)
    fails [] (g ∷ gs) c s l = and_left _ _ (ap not (eq-eqb g 32 s.0))
    fails (b ∷ bs) gap c s l = and_right _ _ (fails bs gap c s l)

-- the two words of a cost

pub record TwoWords (s : Spot) (w : Words) : Type 0 where
  pub gap : List ℕ
  pub spelled : s.text ≡ w.number.text ++ (gap ++ w.commodity.text)
  pub spaces : Spaces gap
  pub some : 1 ≤ length gap
  pub number_place : w.number.place ≡ s.place
  pub commodity_place : w.commodity.place ≡ s.place + (length w.number.text + length gap)

abbrev words_of : Spot → Words
words_of s = record { number = record { text = take (before 32 s.text) s.text; place = s.place }; commodity = record { text = drop (gap_end s.text) s.text; place = s.place + gap_end s.text } }

from_some : {A : Type 0} (b : Bool) (x y : A) → cond b (Some x) None ≡ Some y → (b ≡ true) × (x ≡ y)
from_some true x y e = (refl, cc)
from_some false x y e = absurd (grind arith)

gap_some : (t : List ℕ) → Halts (in_class (Except 32)) t → 1 ≤ length (drop (run_length Space t) t) → 1 ≤ run_length Space t
gap_some [] h l = absurd (omega arith)
gap_some (b ∷ bs) h l = let e : eqb b 32 ≡ true = not_not (eqb b 32) h in rw e (omega arith)
  where
    not_not : (x : Bool) → not x ≡ false → x ≡ true
    not_not true e = refl
    not_not false e = sym e

two_words_sound : (s : Spot) (w : Words) → two_words s ≡ Some w → TwoWords s w
unfolding two_words
two_words_sound s w e =
    let t = s.text in
    let a = before 32 t in
    let k = run_length Space (drop a t) in
    let f = from_some (leb 1 a && is_word (drop (gap_end t) t)) (words_of s) w e in
    let p = and_parts (leb 1 a) _ f.0 in
    let word = word_told (drop (gap_end t) t) p.1 in
    let rest : drop (gap_end t) t ≡ drop k (drop a t) = sym (drop-drop k a t) in
    let size : length (take k (drop a t)) ≡ k = omega (arith, length-take k (drop a t), prefix_len-le-length (in_class Space) (drop a t)) in
    let number_size : length (take a t) ≡ a = omega (arith, length-take a t, prefix_len-le-length (in_class (Except 32)) t) in
    let more : 1 ≤ k = gap_some (drop a t) (run_halts (in_class (Except 32)) t) (omega (arith, ap length rest, word.some)) in
    subst (TwoWords s) f.1
    (record {
      gap = take k (drop a t);
      spelled =
          sym (take-append-drop a t)
          ∙ ap (λ (x : List ℕ). take a t ++ x) (sym (take-append-drop k (drop a t)) ∙ ap (λ (x : List ℕ). take k (drop a t) ++ x) (sym rest));
      spaces = pass_spaces _ (run_passes (in_class Space) (drop a t));
      some = omega (arith, size, more);
      number_place = refl;
      commodity_place = omega (arith, size, number_size);
    })

two_words_complete : (s : Spot) (w : Words) → TwoWords s w → Word w.number.text → Word w.commodity.text → two_words s ≡ Some w
unfolding two_words
two_words_complete s w h n c =
    let t = s.text in
    let nt = w.number.text in
    let ct = w.commodity.text in
    let rest_ends : Halts (in_class (Except 32)) (h.gap ++ ct) = gap_halts h.gap ct h.spaces h.some in
    let a : before 32 t ≡ length nt = ap (before 32) h.spelled ∙ run_made (in_class (Except 32)) nt (h.gap ++ ct) (unlike_pass 32 nt n.unspaced) rest_ends in
    let behind : drop (before 32 t) t ≡ h.gap ++ ct = ap (λ (m : ℕ). drop m t) a ∙ ap (drop (length nt)) h.spelled ∙ drop_at nt (h.gap ++ ct) (length nt) refl in
    let k : run_length Space (drop (before 32 t) t) ≡ length h.gap =
    ap (prefix_len (in_class Space)) behind ∙ run_made (in_class Space) h.gap ct (spaces_pass _ h.spaces) (opens_halt ct (commodity_opens ct c)) in
    let g : gap_end t ≡ length nt + length h.gap = omega (arith, a, k) in
    let name : drop (gap_end t) t ≡ ct =
    ap (λ (m : ℕ). drop m t) (ap (λ (m : ℕ). before 32 t + m) k)
    ∙ sym (drop-drop (length h.gap) (before 32 t) t)
    ∙ ap (drop (length h.gap)) behind
    ∙ drop_at h.gap ct (length h.gap) refl in
    let front : take (before 32 t) t ≡ nt = ap (λ (m : ℕ). take m t) a ∙ ap (take (length nt)) h.spelled ∙ take_at nt (h.gap ++ ct) (length nt) refl in
    let tests : (leb 1 (before 32 t) && is_word (drop (gap_end t) t)) ≡ true =
    and_from _ _ (le-leb 1 (before 32 t) (omega (arith, a, n.some))) (ap is_word name ∙ word_test ct c.some c.unspaced) in
    let p : s.place + gap_end t ≡ w.commodity.place = omega (arith, g, h.commodity_place) in
    cond-true _ (Some (words_of s)) None tests
    ∙ ap Some
    (ap (λ (x : List ℕ). record { number = record { text = x; place = s.place }; commodity = (words_of s).commodity }) front
    ∙ ap (λ (x : ℕ). record { number = record { text = nt; place = x }; commodity = (words_of s).commodity }) (sym h.number_place)
    ∙ ap (λ (x : List ℕ). record { number = w.number; commodity = record { text = x; place = s.place + gap_end t } }) name
    ∙ ap (λ (x : ℕ). record { number = w.number; commodity = record { text = ct; place = x } }) p)
  where
    gap_halts : (gap ct : List ℕ) → Spaces gap → 1 ≤ length gap → Halts (in_class (Except 32)) (gap ++ ct)
    gap_halts [] ct s l = absurd (omega arith)
    gap_halts (g ∷ gs) ct s l = ap not (eq-eqb g 32 s.0)

    commodity_opens : (ct : List ℕ) → Word ct → Opens ct
    commodity_opens [] c = absurd (omega (arith, c.some))
    commodity_opens (b ∷ bs) c = c.unspaced.0

-- a cost in words

cost_sound : (brace : ℕ) (s : Spot) (w : Words) (c : CostSaid) → TwoWords s w → cost_in brace w ≡ Ok c → CostForm s.place s.text c
unfolding cost_in
cost_sound brace s w c h e =
    let a = from_and_then fault.Field (number_at w.number.text w.number.place) (λ (v : ℤ). cond (has_minus w.number.text) (Err (fault.Braces brace)) (and_then fault.Field (commodity_at w.commodity) (λ (m : Spot). Ok (record { number = w.number; hundredths = v; commodity = m })))) c e in
    let denotes = from_number w.number.text w.number.place a.0 a.1 in
    ⊎_elim
    (λ (y : has_minus w.number.text ≡ true). err_ok (sym (cond-true _ _ _ y) ∙ a.2))
    (λ (n : has_minus w.number.text ≡ false).
    let b = from_and_then fault.Field (commodity_at w.commodity) (λ (m : Spot). Ok (record { number = w.number; hundredths = a.0; commodity = m })) c (sym (cond-false _ _ _ n) ∙ a.2) in
    let m = from_commodity w.commodity b.0 b.1 in
    subst (CostForm s.place s.text) (ap (λ (x : Spot). record { number = w.number; hundredths = a.0; commodity = x }) m.0 ∙ same_ok b.2)
    (record {
      gap = h.gap;
      spelled = h.spelled;
      spaces = h.spaces;
      some = h.some;
      denotes = denotes;
      unsigned = no_minus w.number.text n (some_number w.number.text a.0 denotes);
      name = m.1;
      number_place = h.number_place;
      name_place = h.commodity_place;
    }))
    (cases_Bool (has_minus w.number.text))
  where
    no_minus : (t : List ℕ) → has_minus t ≡ false → 1 ≤ length t → Starts (λ b. b ≡ 45 → ⊥) t
    no_minus [] n l = absurd (omega arith)
    no_minus (b ∷ bs) n l = eqb-false b 45 n

    some_number : (t : List ℕ) (v : ℤ) → Denotes t v → 1 ≤ length t
    some_number [] v d = absurd (no_number v d)
    some_number (b ∷ bs) v d = omega arith

number_word : (t : List ℕ) (v : ℤ) → Denotes t v → Word t
number_word [] v d = absurd (no_number v d)
number_word (b ∷ bs) v d = record { some = omega arith; unspaced = plain_unlike 32 (λ p. omega (arith, p.0)) (b ∷ bs) (number_plain (b ∷ bs) v d) }

name_word : (t : List ℕ) → IsCommodityName t → Word t
name_word t c = record { some = omega (arith, c.two_or_more); unspaced = plain_unlike 32 (λ p. omega (arith, p.0)) t (name_plain t c) }

date_word : (t : List ℕ) (n : ℕ) → WritesDate t n → Word t
date_word [] n w = absurd (no_date n w)
date_word (b ∷ bs) n w = record { some = omega arith; unspaced = plain_unlike 32 (λ p. omega (arith, p.0)) (b ∷ bs) (date_plain (b ∷ bs) n w) }

abbrev words_said : CostSaid → Words
words_said c = record { number = c.number; commodity = c.commodity }

cost_words : (s : Spot) (c : CostSaid) → CostForm s.place s.text c → two_words s ≡ Some (words_said c)
cost_words s c h =
    two_words_complete s (words_said c)
    (record { gap = h.gap; spelled = h.spelled; spaces = h.spaces; some = h.some; number_place = h.number_place; commodity_place = h.name_place })
    (number_word _ _ h.denotes)
    (name_word _ h.name)

cost_complete : (brace p : ℕ) (t : List ℕ) (c : CostSaid) → CostForm p t c → cost_in brace (words_said c) ≡ Ok c
unfolding cost_in
cost_complete brace p t c h =
    let n = to_number c.number.text c.number.place c.hundredths h.denotes in
    let u : has_minus c.number.text ≡ false = unminused c.number.text h.unsigned in
    let m = to_commodity c.commodity h.name in
    rw (n, u, m)
  where
    unminused : (t : List ℕ) → Starts (λ b. b ≡ 45 → ⊥) t → has_minus t ≡ false
    unminused [] h = absurd h
    unminused (b ∷ bs) h = ne_eqb b 45 h

-- the comma and the space between two parts

split_there : (t : List ℕ) → before_separator t < length t → t ≡ take (before_separator t) t ++ 44 ∷ (32 ∷ drop (before_separator t + 2) t)
split_there [] l = absurd (omega arith)
split_there (b ∷ bs) l =
    ⊎_elim
    (λ (e : (eqb b 44 && eqb (get_or bs 0 0) 32) ≡ true).
    let p = and_parts (eqb b 44) _ e in
    rw e (here b bs (eqb-true _ _ p.0) (eqb-true _ _ p.1)))
    (λ (e : (eqb b 44 && eqb (get_or bs 0 0) 32) ≡ false).
    let z = simp (e, one-add) at l in
    let two : suc (before_separator bs) + 2 ≡ suc (before_separator bs + 2) = omega arith in
    rw (e, one-add, two) (ap (λ (x : List ℕ). b ∷ x) (split_there bs (omega arith))))
    (cases_Bool (eqb b 44 && eqb (get_or bs 0 0) 32))
  where
    here : (b : ℕ) (bs : List ℕ) → b ≡ 44 → get_or bs 0 0 ≡ 32 → b ∷ bs ≡ 44 ∷ (32 ∷ drop 2 (b ∷ bs))
    here b [] e f = absurd (omega arith)
    here b (c ∷ cs) e f = ap (λ (x : ℕ). x ∷ c ∷ cs) e ∙ ap (λ (x : ℕ). 44 ∷ x ∷ cs) f

no_separator : (t : List ℕ) → AllByRecursion (λ b. b ≡ 44 → ⊥) t → before_separator t ≡ length t
no_separator [] h = refl
no_separator (b ∷ bs) h = rw (ne_eqb b 44 h.0, no_separator bs h.1, one-add)

separator_found : (a b : List ℕ) → AllByRecursion (λ x. x ≡ 44 → ⊥) a → before_separator (a ++ 44 ∷ (32 ∷ b)) ≡ length a
separator_found [] b h = refl
separator_found (x ∷ xs) b h = rw (ne_eqb x 44 h.0, separator_found xs b h.1, one-add)

-- the whole

from_date_in : (s : Spot) (d : ℕ) → date_in s ≡ Ok d → WritesDate s.text d
unfolding date_in
from_date_in s d e =
    let a = from_and_then fault.Field (date_at s.text s.place) (λ (x : ℕ). Ok x) d e in
    subst (WritesDate s.text) (same_ok a.2) (from_date s.text s.place a.0 a.1)

to_date_in : (s : Spot) (d : ℕ) → WritesDate s.text d → date_in s ≡ Ok d
unfolding date_in
to_date_in s d w = let e = to_date s.text s.place d w in rw e

single_sound : (brace : ℕ) (s : Spot) (b : BracesSaid) → inside_by brace (one_part s) ≡ Ok b → BracesForm s.place s.text b
unfolding one_part
single_sound brace s b e =
    ⊎_elim
    (λ (y : is_word s.text ≡ true).
    let g = sym (ap (inside_by brace) (cond-true _ (Some (date_part s)) _ y)) ∙ e in
    let a = from_and_then (λ (f : LineFault). f) (date_in s) (λ (d : ℕ). Ok (date d)) b g in
    subst (BracesForm s.place s.text) (same_ok a.2) (from_date_in s a.0 a.1))
    (λ (n : is_word s.text ≡ false). costs (two_words s) refl (sym (ap (inside_by brace) (cond-false _ _ (option_map cost_part (two_words s)) n)) ∙ e))
    (cases_Bool (is_word s.text))
  where
    costs : (o : Option Words) → two_words s ≡ o → inside_by brace (option_map cost_part o) ≡ Ok b → BracesForm s.place s.text b
    costs None f g = err_ok g
    costs (Some w) f g =
        let a = from_and_then (λ (f : LineFault). f) (cost_in brace w) (λ (c : CostSaid). Ok (cost c)) b g in
        subst (BracesForm s.place s.text) (same_ok a.2) (cost_sound brace s w a.0 (two_words_sound s w f) a.1)

double_sound : (brace : ℕ) (s : Spot) (b : BracesSaid) → before_separator s.text < length s.text → inside_by brace (two_parts (part_before (before_separator s.text) s, part_after (before_separator s.text + 2) s)) ≡ Ok b → BracesForm s.place s.text b
unfolding two_parts
double_sound brace s b l e = words (two_words first) refl e
  where
    n : ℕ
    n = before_separator s.text

    first : Spot
    first = part_before (before_separator s.text) s

    second : Spot
    second = part_after (before_separator s.text + 2) s

    dates : (w : Words) (o : Option Spot) → two_words first ≡ Some w → word_at second ≡ o → inside_by brace (option_map (λ d. both_parts w d) o) ≡ Ok b → BracesForm s.place s.text b
    dates w None f h g = err_ok g
    dates w (Some x) f h g =
        let k = from_some (is_word second.text) second x h in
        let a = from_and_then (λ (f : LineFault). f) (cost_in brace w) (λ (c : CostSaid). and_then (λ (f : LineFault). f) (date_in x) (λ (d : ℕ). Ok (cost_and_date c d))) b g in
        let z = from_and_then (λ (f : LineFault). f) (date_in x) (λ (d : ℕ). Ok (cost_and_date a.0 d)) b a.2 in
        let wrote : WritesDate second.text z.0 = from_date_in second z.0 (ap date_in k.1 ∙ z.1) in
        subst (BracesForm s.place s.text) (same_ok z.2) (
          first.text,
          second.text,
          split_there s.text l,
          cost_sound brace first w a.0 (two_words_sound first w f) a.1,
          wrote,
        )

    words : (o : Option Words) → two_words first ≡ o → inside_by brace (bind o (λ w. option_map (λ d. both_parts w d) (word_at second))) ≡ Ok b → BracesForm s.place s.text b
    words None f g = err_ok g
    words (Some w) f g = dates w (word_at second) f refl g

pub inside_sound : (brace : ℕ) (s : Spot) (b : BracesSaid) → inside brace s ≡ Ok b → BracesForm s.place s.text b
unfolding inside shape
inside_sound brace s b e =
    ⊎_elim
    (λ (m : missing s ≡ true).
    subst (BracesForm s.place s.text) (same_ok (sym (ap (inside_by brace) (cond-true _ (Some no_part) _ m)) ∙ e)) (nil_from_length s.text (eqb-true _ _ m)))
    (λ (m : missing s ≡ false).
    let g = sym (ap (inside_by brace) (cond-false _ (Some no_part) parts m)) ∙ e in
    ⊎_elim
    (λ (y : ltb (before_separator s.text) (length s.text) ≡ true).
    double_sound brace s b (ltb-true _ _ y) (sym (ap (λ cut. inside_by brace (shape_by s cut)) (cond-true _ (Some (part_before (before_separator s.text) s, part_after (before_separator s.text + 2) s)) None y)) ∙ g))
    (λ (n : ltb (before_separator s.text) (length s.text) ≡ false).
    single_sound brace s b (sym (ap (λ cut. inside_by brace (shape_by s cut)) (cond-false _ (Some (part_before (before_separator s.text) s, part_after (before_separator s.text + 2) s)) None n)) ∙ g))
    (cases_Bool (ltb (before_separator s.text) (length s.text))))
    (cases_Bool (missing s))
  where
    parts : Option Shape
    parts = shape_by s (parts_cut s)

-- one part: a date or a cost
shape_single : (s : Spot) → 1 ≤ length s.text → AllByRecursion (λ b. b ≡ 44 → ⊥) s.text → shape s ≡ one_part s
unfolding shape
shape_single s l h =
    let m : missing s ≡ false = ne_eqb _ _ (λ z. omega arith) in
    let n : ltb (before_separator s.text) (length s.text) ≡ false = le-ltb _ _ (omega (arith, no_separator s.text h)) in
    rw (m, n)

part_date : (s : Spot) → Word s.text → one_part s ≡ Some (date_part s)
unfolding one_part
part_date s w = cond-true _ _ _ (word_test s.text w.some w.unspaced)

part_cost : (s : Spot) (c : CostSaid) → CostForm s.place s.text c → one_part s ≡ Some (cost_part (words_said c))
unfolding one_part
part_cost s c h =
    let n : is_word s.text ≡ false = ap is_word h.spelled ∙ spaced_test c.number.text h.gap c.commodity.text h.spaces h.some in
    let w = cost_words s c h in
    rw (n, w)

spaces_unlike : (c : ℕ) → (c ≡ 32 → ⊥) → (t : List ℕ) → Spaces t → AllByRecursion (λ b. b ≡ c → ⊥) t
spaces_unlike c n t h = All-weaker (λ b. b ≡ 32) (λ b. b ≡ c → ⊥) (λ b e f. n (sym f ∙ e)) t h

-- no byte of a cost is one that is neither plain nor a space
pub cost_unlike : (c : ℕ) → (Plain c → ⊥) → (c ≡ 32 → ⊥) → (p : ℕ) (t : List ℕ) (k : CostSaid) → CostForm p t k → AllByRecursion (λ b. b ≡ c → ⊥) t
cost_unlike c n m p t k h =
    subst (AllByRecursion (λ (b : ℕ). b ≡ c → ⊥)) (sym h.spelled)
    (All-append (λ b. b ≡ c → ⊥) k.number.text (h.gap ++ k.commodity.text)
    (plain_unlike c n _ (number_plain _ _ h.denotes))
    (All-append (λ b. b ≡ c → ⊥) h.gap k.commodity.text (spaces_unlike c m _ h.spaces) (plain_unlike c n _ (name_plain _ h.name))))

cost_some : (p : ℕ) (t : List ℕ) (k : CostSaid) → CostForm p t k → 1 ≤ length t
cost_some p t k h = omega (arith, ap length h.spelled, length-append k.number.text (h.gap ++ k.commodity.text), length-append h.gap k.commodity.text, h.some)

shape_double : (s : Spot) (a b : List ℕ) (c : CostSaid) → s.text ≡ a ++ 44 ∷ (32 ∷ b) → CostForm s.place a c → Word b → (x : Spot) × (shape s ≡ Some (both_parts (words_said c) x)) × (x.text ≡ b)
unfolding shape two_parts
shape_double s a b c e h w =
    let t = s.text in
    let n : before_separator t ≡ length a = ap before_separator e ∙ separator_found a b (cost_unlike 44 (λ p. omega (arith, p.0)) (λ z. omega arith) s.place a c h) in
    let size = ap length e ∙ length-append a (44 ∷ (32 ∷ b)) in
    let m : missing s ≡ false = ne_eqb _ _ (λ z. omega (arith, size)) in
    let l : ltb (before_separator t) (length t) ≡ true = lt-ltb _ _ (omega (arith, n, size)) in
    let front : take (before_separator t) t ≡ a = ap (λ (k : ℕ). take k t) n ∙ ap (take (length a)) e ∙ take_at a (44 ∷ (32 ∷ b)) (length a) refl in
    let back : drop (before_separator t + 2) t ≡ b =
    ap (λ (k : ℕ). drop (k + 2) t) n ∙ sym (drop-drop 2 (length a) t) ∙ ap (λ (x : List ℕ). drop 2 (drop (length a) x)) e ∙ ap (drop 2) (drop_at a (44 ∷ (32 ∷ b)) (length a) refl) in
    let words : two_words (part_before (before_separator t) s) ≡ Some (words_said c) =
    ap (λ (x : List ℕ). two_words (record { text = x; place = s.place })) front ∙ cost_words (record { text = a; place = s.place }) c h in
    let word : is_word (drop (before_separator t + 2) t) ≡ true = ap is_word back ∙ word_test b w.some w.unspaced in
    (part_after (before_separator t + 2) s, rw (m, l, words, word), back)

empty_shape : (s : Spot) → missing s ≡ true → shape s ≡ Some no_part
unfolding shape
empty_shape s m = cond-true _ _ _ m

pub inside_complete : (brace : ℕ) (s : Spot) (b : BracesSaid) → BracesForm s.place s.text b → inside brace s ≡ Ok b
unfolding inside
inside_complete brace s empty h = nothing s (ap length h)
  where
    nothing : (s : Spot) → length s.text ≡ 0 → inside_by brace (shape s) ≡ Ok empty
    nothing s z = let m : missing s ≡ true = eq-eqb _ _ z in ap (inside_by brace) (empty_shape s m)
inside_complete brace s (cost c) h =
    let f = shape_single s (cost_some s.place s.text c h) (cost_unlike 44 (λ p. omega (arith, p.0)) (λ z. omega arith) s.place s.text c h) ∙ part_cost s c h in
    let k = cost_complete brace s.place s.text c h in
    ap (inside_by brace) f ∙ rw k
inside_complete brace s (date d) h =
    let w = date_word s.text d h in
    let f = shape_single s w.some (plain_unlike 44 (λ p. omega (arith, p.0)) s.text (date_plain s.text d h)) ∙ part_date s w in
    let k = to_date_in s d h in
    ap (inside_by brace) f ∙ rw k
inside_complete brace s (cost_and_date c d) h =
    let f = shape_double s h.0 h.1 c h.2 h.3 (date_word h.1 d h.4) in
    let k = cost_complete brace s.place h.0 c h.3 in
    let m = to_date_in f.0 d (subst (λ (t : List ℕ). WritesDate t d) (sym f.2) h.4) in
    ap (inside_by brace) f.1 ∙ rw (k, m)

-- no byte between braces is a closing brace
pub braces_unlike : (p : ℕ) (t : List ℕ) (b : BracesSaid) → BracesForm p t b → AllByRecursion (λ x. x ≡ 125 → ⊥) t
braces_unlike p t empty h = subst (AllByRecursion (λ (x : ℕ). x ≡ 125 → ⊥)) (sym h) tt
braces_unlike p t (cost c) h = cost_unlike 125 (λ q. omega (arith, q.1)) (λ z. omega arith) p t c h
braces_unlike p t (date d) h = plain_unlike 125 (λ q. omega (arith, q.1)) t (date_plain t d h)
braces_unlike p t (cost_and_date c d) h =
    subst (AllByRecursion (λ (x : ℕ). x ≡ 125 → ⊥)) (sym h.2)
    (All-append (λ x. x ≡ 125 → ⊥) h.0 (44 ∷ (32 ∷ h.1))
    (cost_unlike 125 (λ q. omega (arith, q.1)) (λ z. omega arith) p h.0 c h.3)
    ((λ e. omega arith), ((λ e. omega arith), plain_unlike 125 (λ q. omega (arith, q.1)) h.1 (date_plain h.1 d h.4))))
