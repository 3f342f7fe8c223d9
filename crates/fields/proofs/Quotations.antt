-- Reading a quoted text finds just what stands between its quotes.
use Rattle.std.proofs.lemmas.Grind.{common_steps}
use Rattle.std.proofs.lemmas.Bool.Decides.{nat_tests}
use Rattle.std.proofs.Common.{◌≡◌, ℕ, suc, ◌+◌, ◌<◌, ◌≤◌, Bool, true, not, ◌&&◌, eqb, leb, List, [], ◌∷◌, ◌++◌, length, get_or, take, drop, IfOk, Some, None, Ok, Err, Result, sym, refl, ap, ◌∙◌, subst, add-one, arith, MatchResult}
use Rattle.std.specs.Option.{option_map}
use Rattle.std.specs.List.{AllByRecursion}
use Rattle.std.proofs.lemmas.List.{drop-drop, drop_at, get_or_at, length-take, length-append}
use Rattle.std.proofs.lemmas.Bool.{and_parts, and_from, or_right, eqb-true, eq-eqb, ne_eqb, le-leb, leb-true, cond-true}
use Rattle.byte_text.specs.Classes.{in_class, run_length}
use Rattle.byte_text.specs.declared.ByteClass.TheVariants.{QuotedText}
use Rattle.byte_text.proofs.Runs.{run_passes, run_made}
use Rattle.fields.specs.Denotes.{FieldEnds, Quotes}
use Rattle.fields.specs.Quoted.{ends_field, quoted_length, quoted_at}
use Rattle.fields.specs.Results.{map_ok}
use Rattle.fields.specs.Spots.{Spot, seen}
use Rattle.fields.specs.declared.fault.FieldFault.{FieldFault}
use Rattle.fields.specs.declared.field.Field.{Field}
use Rattle.fields.proofs.Options.{none_some, from_cond, from_mapped, from_ok, from_err, mapped_none}

plain_byte : (b : ℕ) → in_class QuotedText b ≡ true → (b ≡ 34 → ⊥) × (b ≡ 92 → ⊥)
plain_byte b e = grind (arith, nat_tests)

byte_plain : (b : ℕ) → (b ≡ 34 → ⊥) × (b ≡ 92 → ⊥) → in_class QuotedText b ≡ true
byte_plain b h = and_from _ _ (ap not (ne_eqb b 34 h.0)) (ap not (ne_eqb b 92 h.1))

all_plain : (xs : List ℕ) → AllByRecursion (λ x. in_class QuotedText x ≡ true) xs → AllByRecursion (λ b. (b ≡ 34 → ⊥) × (b ≡ 92 → ⊥)) xs
all_plain [] h = tt
all_plain (x ∷ xs) h = (plain_byte x h.0, all_plain xs h.1)

plain_all : (xs : List ℕ) → AllByRecursion (λ b. (b ≡ 34 → ⊥) × (b ≡ 92 → ⊥)) xs → AllByRecursion (λ x. in_class QuotedText x ≡ true) xs
plain_all [] h = tt
plain_all (x ∷ xs) h = (byte_plain x h.0, plain_all xs h.1)

at_byte : (xs : List ℕ) (n : ℕ) → get_or xs n 0 ≡ 34 → xs ≡ take n xs ++ 34 ∷ drop (n + 1) xs
at_byte xs n e = grind (arith, common_steps)
  where
    within : n < length xs
    within = grind (arith, common_steps)

pub ends_sound : (rest : List ℕ) → ends_field rest ≡ true → FieldEnds rest
ends_sound [] e = tt
ends_sound (b ∷ bs) e = grind (arith, nat_tests)

pub ends_complete : (rest : List ℕ) → FieldEnds rest → ends_field rest ≡ true
ends_complete [] h = refl
ends_complete (b ∷ bs) h = or_right _ _ (eq-eqb b 32 h)

spelled_by : (b : ℕ) (bs : List ℕ) (n : ℕ) → b ≡ 34 → get_or (b ∷ bs) (n + 1) 0 ≡ 34 → b ∷ bs ≡ 34 ∷ (take n bs ++ 34 ∷ drop (n + 2) (b ∷ bs))
spelled_by b bs n e f =
    let two : n + 2 ≡ suc (n + 1) = omega arith in
    let g : get_or bs n 0 ≡ 34 = rw add-one at f in
    ap (λ (x : ℕ). x ∷ bs) e
    ∙ ap (λ (x : List ℕ). 34 ∷ x) (at_byte bs n g ∙ ap (λ (k : ℕ). take n bs ++ 34 ∷ drop k (b ∷ bs)) (sym two))

-- the tests of `quoted_length`
abbrev quoted : List ℕ → ℕ → Bool
quoted t n = eqb (get_or t 0 0) 34 && (leb n 40 && (eqb (get_or t (n + 1) 0) 34 && ends_field (drop (n + 2) t)))

by_run : (b : ℕ) (bs : List ℕ) → quoted (b ∷ bs) (run_length QuotedText bs) ≡ true → Quotes (b ∷ bs) (take (run_length QuotedText bs) bs) (drop (run_length QuotedText bs + 2) (b ∷ bs))
by_run b bs e =
    let n = run_length QuotedText bs in
    let first = and_parts (eqb b 34) _ e in
    let few = and_parts (leb n 40) _ first.1 in
    let closed = and_parts (eqb (get_or (b ∷ bs) (n + 1) 0) 34) _ few.1 in
    record {
      spelled = spelled_by b bs n (eqb-true _ _ first.0) (eqb-true _ _ closed.0);
      plain = all_plain _ (run_passes (in_class QuotedText) bs);
      short = omega (arith, length-take n bs, leb-true n 40 few.0);
      ends = ends_sound _ closed.1;
    }

pub quoted_sound : (t : List ℕ) (n : ℕ) → quoted_length t ≡ Some n → Quotes t (take n (drop 1 t)) (drop (n + 2) t)
quoted_sound [] n e = none_some e
quoted_sound (b ∷ bs) n e =
    let k = run_length QuotedText bs in
    let c = from_cond (quoted (b ∷ bs) k) (Some k) n e in
    let same : k ≡ n = grind arith in
    subst (λ (m : ℕ). Quotes (b ∷ bs) (take m bs) (drop (m + 2) (b ∷ bs))) same (by_run b bs c.0)

pub behind : (content more : List ℕ) → drop (length content + 2) (34 ∷ (content ++ 34 ∷ more)) ≡ more
behind content more =
    let two : length content + 2 ≡ suc (length content + 1) = omega arith in
    ap (λ (k : ℕ). drop k (34 ∷ (content ++ 34 ∷ more))) two
    ∙ sym (drop-drop 1 (length content) (content ++ 34 ∷ more))
    ∙ ap (drop 1) (drop_at content (34 ∷ more) (length content) refl)

closing : (content more : List ℕ) → get_or (34 ∷ (content ++ 34 ∷ more)) (length content + 1) 0 ≡ 34
closing content more = rw add-one (get_or_at content 34 more 0 (length content) refl)

complete : (content more : List ℕ) → AllByRecursion (λ b. (b ≡ 34 → ⊥) × (b ≡ 92 → ⊥)) content → length content ≤ 40 → FieldEnds more → quoted_length (34 ∷ (content ++ 34 ∷ more)) ≡ Some (length content)
complete content more p s f =
    let t = 34 ∷ (content ++ 34 ∷ more) in
    let n = run_length QuotedText (content ++ 34 ∷ more) in
    let k : n ≡ length content = run_made (in_class QuotedText) content (34 ∷ more) (plain_all content p) refl in
    let tests : quoted t (length content) ≡ true =
    and_from _ _ refl
    (and_from _ _
    (le-leb (length content) 40 s)
    (and_from _ _ (eq-eqb _ _ (closing content more)) (ap ends_field (behind content more) ∙ ends_complete more f))) in
    cond-true _ (Some n) None (ap (quoted t) k ∙ tests) ∙ ap Some k

pub quoted_complete : (t content more : List ℕ) → Quotes t content more → quoted_length t ≡ Some (length content)
quoted_complete t content more q = ap quoted_length q.spelled ∙ complete content more q.plain q.short q.ends

pub quotes_exactly : (r : Result Field FieldFault) (s : Spot) → map_ok seen r ≡ quoted_at s → MatchResult r (λ f. (more : List ℕ) × Quotes s.text f.text.now more) (λ _. (content : List ℕ) (more : List ℕ) → Quotes s.text content more → ⊥)
unfolding quoted_at
quotes_exactly (Ok f) s h =
    let shown : ℕ → Spot = λ n. record { text = take n (drop 1 s.text); place = s.place } in
    let m = from_mapped (quoted_length s.text) shown (seen f) (from_ok (option_map shown (quoted_length s.text)) _ (seen f) h) in
    let text : take m.0 (drop 1 s.text) ≡ f.text.now = ap (λ (x : Spot). x.text) m.2 in (
      drop (m.0 + 2) s.text,
      subst (λ (content : List ℕ). Quotes s.text content (drop (m.0 + 2) s.text)) text (quoted_sound s.text m.0 m.1),
    )
quotes_exactly (Err e) s h =
    λ content more q.
    let some = quoted_complete s.text content more q in
    let none = mapped_none (quoted_length s.text) _ (from_err _ _ e h) in
    grind arith

pub quotes_within : (r : Result Field FieldFault) (t : List ℕ) → MatchResult r (λ f. (more : List ℕ) × Quotes t f.text.now more) (λ _. (content : List ℕ) (more : List ℕ) → Quotes t content more → ⊥) → IfOk r (λ f. length f.text.now + 2 ≤ length t)
quotes_within (Ok f) t q = omega (arith, ap length q.1.spelled, length-append f.text.now (34 ∷ q.0))
quotes_within (Err e) t q = tt
