-- Date reading finds just the date that a text writes.
use Rattle.std.proofs.lemmas.Bool.Decides.{nat_tests}
use Rattle.std.proofs.Common.{◌≡◌, ℕ, ◌+◌, ◌*◌, ◌<◌, ◌≤◌, true, false, ◌&&◌, eqb, List, [], ◌∷◌, ◌++◌, length, get_or, take, drop, Some, None, Ok, Err, Option, Result, sym, ap, ◌∙◌, arith, MatchResult}
use Rattle.std.specs.Option as options
use Rattle.std.specs.List.{AllByRecursion}
use Rattle.std.proofs.lemmas.List.{length-take-le, length-drop}
use Rattle.std.proofs.lemmas.Bool.{and_parts, eqb-true, cond-true, cond-false}
use Rattle.values.specs.Calendar.{is_day, is_calendar_day, CalendarDay, day_number}
use Rattle.values.specs.Spelling.{Digit}
use Rattle.values.specs.declared.date.Date.{Date}
use Rattle.values.proofs.Days.{day_parts, calendar_decides}
use Rattle.fields.specs.Dates.{day_of, date, date_at}
use Rattle.fields.specs.Decimal.{decimal}
use Rattle.fields.specs.Denotes.{value, WritesDate}
use Rattle.fields.specs.Results.{map_ok, bind}
use Rattle.fields.specs.declared.fault.FieldFault.{FieldFault}
use Rattle.fields.proofs.Denotations.{from_decimal}
use Rattle.fields.proofs.Options.{from_bind, from_cond, from_ok, from_err}

pub day_made : (r : Option Date) (y m d : ℕ) → m < 100 → d < 100 → options.MatchOption r (is_day (y * 10000 + m * 100 + d) ≡ false) (λ x. (is_day (y * 10000 + m * 100 + d) ≡ true) × (x.number ≡ y * 10000 + m * 100 + d)) → options.option_map (λ (x : Date). x.number) r ≡ day_of y m d
day_made None y m d p q h = sym (cond-false _ _ _ (sym (day_parts y m d p q) ∙ h))
day_made (Some x) y m d p q h = ap Some h.1 ∙ sym (cond-true _ _ _ (sym (day_parts y m d p q) ∙ h.0))

-- ten bytes with hyphens at the fifth and eighth
spelled_ten : (t : List ℕ) → length t ≡ 10 → get_or t 4 0 ≡ 45 → get_or t 7 0 ≡ 45 → t ≡ take 4 t ++ 45 ∷ (take 2 (drop 5 t) ++ 45 ∷ take 2 (drop 8 t))
spelled_ten [] l p q = absurd (omega arith)
spelled_ten (a ∷ []) l p q = absurd (omega arith)
spelled_ten (a ∷ b ∷ []) l p q = absurd (omega arith)
spelled_ten (a ∷ b ∷ c ∷ []) l p q = absurd (omega arith)
spelled_ten (a ∷ b ∷ c ∷ d ∷ []) l p q = absurd (omega arith)
spelled_ten (a ∷ b ∷ c ∷ d ∷ e ∷ []) l p q = absurd (omega arith)
spelled_ten (a ∷ b ∷ c ∷ d ∷ e ∷ f ∷ []) l p q = absurd (omega arith)
spelled_ten (a ∷ b ∷ c ∷ d ∷ e ∷ f ∷ g ∷ []) l p q = absurd (omega arith)
spelled_ten (a ∷ b ∷ c ∷ d ∷ e ∷ f ∷ g ∷ h ∷ []) l p q = absurd (omega arith)
spelled_ten (a ∷ b ∷ c ∷ d ∷ e ∷ f ∷ g ∷ h ∷ i ∷ []) l p q = absurd (omega arith)
spelled_ten (a ∷ b ∷ c ∷ d ∷ e ∷ f ∷ g ∷ h ∷ i ∷ j ∷ []) l p q = cc
spelled_ten (a ∷ b ∷ c ∷ d ∷ e ∷ f ∷ g ∷ h ∷ i ∷ j ∷ k ∷ ks) l p q = absurd (omega arith)

moved : {a a' b b' c c' : ℕ} → a ≡ a' → b ≡ b' → c ≡ c' → CalendarDay a b c → CalendarDay a' b' c'
moved {a} {a'} {b} {b'} {c} {c'} e f g h = grind (arith, nat_tests)

sound : (t : List ℕ) (n : ℕ) → date t ≡ Some n → WritesDate t n
sound t n e =
    let b = from_cond (eqb (length t) 10 && (eqb (get_or t 4 0) 45 && eqb (get_or t 7 0) 45)) _ n e in
    let tests = and_parts (eqb (length t) 10) _ b.0 in
    let hyphens = and_parts (eqb (get_or t 4 0) 45) (eqb (get_or t 7 0) 45) tests.1 in
    let ten = eqb-true _ _ tests.0 in
    let ys = take 4 t in
    let ms = take 2 (drop 5 t) in
    let ds = take 2 (drop 8 t) in
    let year = from_bind (decimal ys) (λ (y : ℕ). bind (decimal ms) (λ (m : ℕ). bind (decimal ds) (λ (d : ℕ). day_of y m d))) n b.1 in
    let month = from_bind (decimal ms) (λ (m : ℕ). bind (decimal ds) (λ (d : ℕ). day_of year.0 m d)) n year.2 in
    let day = from_bind (decimal ds) (λ (d : ℕ). day_of year.0 month.0 d) n month.2 in
    let made = from_cond (is_calendar_day year.0 month.0 day.0) (Some (day_number year.0 month.0 day.0)) n day.2 in
    let y = from_decimal 0 ys year.0 year.1 in
    let m = from_decimal 0 ms month.0 month.1 in
    let d = from_decimal 0 ds day.0 day.1 in
    let cal = (calendar_decides year.0 month.0 day.0).0 made.0 in
    let fifth : 2 ≤ length (drop 5 t) = omega (arith, length-drop 5 t) in
    let eighth : 2 ≤ length (drop 8 t) = omega (arith, length-drop 8 t) in
    let same : day_number year.0 month.0 day.0 ≡ n = grind arith in (
      record {
        year = ys;
        month = ms;
        day = ds;
        digits = (y.0, m.0, d.0);
        lengths = (length-take-le 4 t (omega arith), length-take-le 2 (drop 5 t) fifth, length-take-le 2 (drop 8 t) eighth);
        spelled = spelled_ten t ten (eqb-true _ _ hyphens.0) (eqb-true _ _ hyphens.1);
      },
      moved y.1 m.1 d.1 cal,
      omega (arith, same, y.1, m.1, d.1),
    )

complete : (ys ms ds : List ℕ) → AllByRecursion Digit ys → AllByRecursion Digit ms → AllByRecursion Digit ds → length ys ≡ 4 → length ms ≡ 2 → length ds ≡ 2 → CalendarDay (value ys) (value ms) (value ds) → date (ys ++ 45 ∷ (ms ++ 45 ∷ ds)) ≡ Some (day_number (value ys) (value ms) (value ds))
complete (a ∷ b ∷ c ∷ d ∷ []) (e ∷ f ∷ []) (g ∷ h ∷ []) p q r k l n cal = grind (arith, nat_tests)
complete [] ms ds p q r k l n cal = absurd (omega arith)
complete (a ∷ []) ms ds p q r k l n cal = absurd (omega arith)
complete (a ∷ b ∷ []) ms ds p q r k l n cal = absurd (omega arith)
complete (a ∷ b ∷ c ∷ []) ms ds p q r k l n cal = absurd (omega arith)
complete (a ∷ b ∷ c ∷ d ∷ e ∷ es) ms ds p q r k l n cal = absurd (omega arith)
complete (a ∷ b ∷ c ∷ d ∷ []) [] ds p q r k l n cal = absurd (omega arith)
complete (a ∷ b ∷ c ∷ d ∷ []) (e ∷ []) ds p q r k l n cal = absurd (omega arith)
complete (a ∷ b ∷ c ∷ d ∷ []) (e ∷ f ∷ g ∷ gs) ds p q r k l n cal = absurd (omega arith)
complete (a ∷ b ∷ c ∷ d ∷ []) (e ∷ f ∷ []) [] p q r k l n cal = absurd (omega arith)
complete (a ∷ b ∷ c ∷ d ∷ []) (e ∷ f ∷ []) (g ∷ []) p q r k l n cal = absurd (omega arith)
complete (a ∷ b ∷ c ∷ d ∷ []) (e ∷ f ∷ []) (g ∷ h ∷ i ∷ is) p q r k l n cal = absurd (omega arith)

pub reading_dates : (t : List ℕ) (n : ℕ) → (date t ≡ Some n → WritesDate t n) × (WritesDate t n → date t ≡ Some n)
reading_dates t n = (
  sound t n,
  λ w.
      let s = w.0 in
      ap date s.spelled
      ∙ complete s.year s.month s.day s.digits.0 s.digits.1 s.digits.2 s.lengths.0 s.lengths.1 s.lengths.2 w.1
      ∙ ap Some (sym w.2),
)

pub date_exactly : (r : Result Date FieldFault) (t : List ℕ) (place : ℕ) → map_ok (λ (d : Date). d.number) r ≡ date_at t place → MatchResult r (λ d. WritesDate t d.number) (λ _. (n : ℕ) → WritesDate t n → ⊥)
unfolding date_at
date_exactly (Ok d) t place h = (reading_dates t d.number).0 (from_ok (date t) _ _ h)
date_exactly (Err f) t place h =
    λ n w.
    let e = (reading_dates t n).1 w in
    let none = from_err (date t) _ f h in
    grind arith
