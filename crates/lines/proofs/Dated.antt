-- Lines that start with a date say what they are written to say.
use Rattle.std.proofs.Common.{◌≡◌, ℕ, ◌+◌, true, false, List, [], ◌∷◌, drop, ℤ, Some, None, Ok, Option, sym, ap, ◌∙◌, subst, ⊎_elim}
use Rattle.std.proofs.lemmas.Bool.{cases_Bool, cond-true, cond-false}
use Rattle.values.specs.Spelling.{IsCommodityName, IsAccountName}
use Rattle.fields.specs.Denotes.{Denotes}
use Rattle.fields.specs.Numbers.{number_at}
use Rattle.fields.specs.Results.{and_then}
use Rattle.fields.specs.Spots.{Spot, commodity_at, account_at}
use Rattle.lines.specs.Cuts.{field_at, field_end, missing}
use Rattle.lines.specs.Directives.{commodity_from, own_from, open_from, close_from, balance_from}
use Rattle.lines.specs.Grammar.{Fields, CommodityForm, OpenForm, CloseForm}
use Rattle.lines.specs.Postings.{ends_at}
use Rattle.lines.specs.Said.{Said, commodity, opening, closing, balance}
use Rattle.lines.specs.declared.fault.LineFault.{LineFault}
use Rattle.lines.specs.declared.fault.LineFault.TheVariants as fault
use Rattle.lines.proofs.Fronts.{none_found, none_only}
use Rattle.lines.proofs.Steps.{same_ok, from_and_then, from_commodity, to_commodity, from_account, to_account, from_number, to_number, no_commodity, no_account, no_number, present, ends_found, ends_only, found, fields_only, fields_end, fields_none, fields_more}

module _ (line : List ℕ) where
  -- the field at an index, and what stands behind it
  abbrev at : ℕ → Spot
  at from = field_at line from

  abbrev end : ℕ → ℕ
  end from = field_end line from

  abbrev tail : ℕ → List ℕ
  tail from = drop from line

  -- a field of which P holds, and others behind it
  pub more : (P : List ℕ → Type 0) → (P [] → ⊥) → (from : ℕ) (fs : List Spot) → P (at from).text → Fields (end from + 1) (tail (end from)) fs → Fields (from + 1) (tail from) (at from ∷ fs)
  more P none from fs h f = fields_more (from + 1) (tail from) (at from) fs (tail (end from)) (end from + 1) (found line P none from h) f

  -- or nothing
  pub last : (P : List ℕ → Type 0) → (P [] → ⊥) → (from : ℕ) (x : Unit {0}) → P (at from).text → ends_at line (end from) ≡ Ok x → Fields (from + 1) (tail from) (at from ∷ [])
  last P none from x h e = more P none from [] h (fields_end (end from + 1) (tail (end from)) (ends_found line (end from) x e))

  pub commodity_sound : (d from : ℕ) (s : Said) → commodity_from line d from ≡ Ok s → (name : Spot) × (s ≡ commodity d name) × CommodityForm (from + 1) (tail from) name
  unfolding commodity_from
  commodity_sound d from s e =
      let a = from_and_then fault.Field (commodity_at (at from)) (λ (name : Spot). and_then (λ (f : LineFault). f) (ends_at line (end from)) (λ _. Ok (commodity d name))) s e in
      let b = from_and_then (λ (f : LineFault). f) (ends_at line (end from)) (λ _. Ok (commodity d a.0)) s a.2 in
      let c = from_commodity (at from) a.0 a.1 in
      (at from, sym (same_ok b.2) ∙ ap (commodity d) (sym c.0), (last IsCommodityName no_commodity from b.0 c.1 b.1, c.1))

  pub commodity_complete : (d from : ℕ) (name : Spot) → CommodityForm (from + 1) (tail from) name → commodity_from line d from ≡ Ok (commodity d name)
  unfolding commodity_from
  commodity_complete d from name h =
      let o = fields_only line from name [] h.0 in
      let n : commodity_at (at from) ≡ Ok name = ap commodity_at o.0 ∙ to_commodity name h.1 in
      let e = ends_only line (end from) (fields_none _ _ o.1) in
      rw (n, e)

  pub close_sound : (d from : ℕ) (s : Said) → close_from line d from ≡ Ok s → (account : Spot) × (s ≡ closing d account) × CloseForm (from + 1) (tail from) account
  unfolding close_from
  close_sound d from s e =
      let a = from_and_then fault.Field (account_at (at from)) (λ (account : Spot). and_then (λ (f : LineFault). f) (ends_at line (end from)) (λ _. Ok (closing d account))) s e in
      let b = from_and_then (λ (f : LineFault). f) (ends_at line (end from)) (λ _. Ok (closing d a.0)) s a.2 in
      let c = from_account (at from) a.0 a.1 in
      let f = last IsAccountName no_account from b.0 c.1 b.1 in
      (at from, sym (same_ok b.2) ∙ ap (closing d) (sym c.0), (f, c.1))

  pub close_complete : (d from : ℕ) (account : Spot) → CloseForm (from + 1) (tail from) account → close_from line d from ≡ Ok (closing d account)
  unfolding close_from
  close_complete d from account h =
      let o = fields_only line from account [] h.0 in
      let n : account_at (at from) ≡ Ok account = ap account_at o.0 ∙ to_account account h.1 in
      let e = ends_only line (end from) (fields_none _ _ o.1) in
      rw (n, e)

  -- an own commodity, or nothing
  abbrev OwnForm : ℕ → Option Spot → Type 0
  OwnForm from None = Fields (from + 1) (tail from) []
  OwnForm from (Some own) = Fields (from + 1) (tail from) (own ∷ []) × IsCommodityName own.text

  own_sound : (from : ℕ) (o : Option Spot) → own_from line from ≡ Ok o → OwnForm from o
  unfolding own_from
  own_sound from o e =
      ⊎_elim
      (λ (m : missing (at from) ≡ true).
      subst (OwnForm from) (same_ok (sym (cond-true _ _ _ m) ∙ e)) (fields_end (from + 1) (tail from) (none_found line from m)))
      (λ (m : missing (at from) ≡ false).
      let g = sym (cond-false _ _ _ m) ∙ e in
      let a = from_and_then fault.Field (commodity_at (at from)) (λ (own : Spot). and_then (λ (f : LineFault). f) (ends_at line (end from)) (λ _. Ok (Some own))) o g in
      let b = from_and_then (λ (f : LineFault). f) (ends_at line (end from)) (λ _. Ok (Some a.0)) o a.2 in
      let c = from_commodity (at from) a.0 a.1 in
      subst (OwnForm from) (ap Some c.0 ∙ same_ok b.2) (last IsCommodityName no_commodity from b.0 c.1 b.1, c.1))
      (cases_Bool (missing (at from)))

  own_complete : (from : ℕ) (o : Option Spot) → OwnForm from o → own_from line from ≡ Ok o
  unfolding own_from
  own_complete from None h = cond-true _ _ _ (none_only line from (fields_none _ _ h))
  own_complete from (Some own) h =
      let o = fields_only line from own [] h.0 in
      let n : commodity_at (at from) ≡ Ok own = ap commodity_at o.0 ∙ to_commodity own h.1 in
      let e = ends_only line (end from) (fields_none _ _ o.1) in
      let m : missing (at from) ≡ false = ap missing o.0 ∙ present IsCommodityName no_commodity own h.1 in
      rw (m, n, e)

  open_form : (from : ℕ) (o : Option Spot) → IsAccountName (at from).text → OwnForm (end from) o → OpenForm (from + 1) (tail from) (at from) o
  open_form from None a h = (more IsAccountName no_account from [] a h, a)
  open_form from (Some own) a h = (more IsAccountName no_account from (own ∷ []) a h.0, a, h.1)

  pub open_sound : (d from : ℕ) (s : Said) → open_from line d from ≡ Ok s → (account : Spot) × (own : Option Spot) × (s ≡ opening d account own) × OpenForm (from + 1) (tail from) account own
  unfolding open_from
  open_sound d from s e =
      let a = from_and_then fault.Field (account_at (at from)) (λ (account : Spot). and_then (λ (f : LineFault). f) (own_from line (end from)) (λ (own : Option Spot). Ok (opening d account own))) s e in
      let b = from_and_then (λ (f : LineFault). f) (own_from line (end from)) (λ (own : Option Spot). Ok (opening d a.0 own)) s a.2 in
      let c = from_account (at from) a.0 a.1 in
      (at from, b.0, sym (same_ok b.2) ∙ ap (λ (x : Spot). opening d x b.0) (sym c.0), open_form from b.0 c.1 (own_sound (end from) b.0 b.1))

  opened : (from : ℕ) (account : Spot) (o : Option Spot) → OpenForm (from + 1) (tail from) account o → (at from ≡ account) × IsAccountName account.text × OwnForm (end from) o
  opened from account None h = let o = fields_only line from account [] h.0 in (o.0, h.1, o.1)
  opened from account (Some own) h = let o = fields_only line from account (own ∷ []) h.0 in (o.0, h.1, (o.1, h.2))

  pub open_complete : (d from : ℕ) (account : Spot) (own : Option Spot) → OpenForm (from + 1) (tail from) account own → open_from line d from ≡ Ok (opening d account own)
  unfolding open_from
  open_complete d from account own h =
      let o = opened from account own h in
      let n : account_at (at from) ≡ Ok account = ap account_at o.0 ∙ to_account account o.1 in
      let e = own_complete (end from) own o.2 in
      rw (n, e)

  pub balance_sound : (d from : ℕ) (s : Said) → balance_from line d from ≡ Ok s → (account : Spot) × (n : Spot) × (v : ℤ) × (c : Spot) × (s ≡ balance d account n v c) × Fields (from + 1) (tail from) (account ∷ n ∷ c ∷ []) × IsAccountName account.text × Denotes n.text v × IsCommodityName c.text
  unfolding balance_from
  balance_sound d from s e =
      let second = end from in
      let third = end (end from) in
      let num = at second in
      let a = from_and_then fault.Field (account_at (at from)) (λ (account : Spot). and_then fault.Field (number_at num.text num.place) (λ (v : ℤ). and_then fault.Field (commodity_at (at third)) (λ (name : Spot). and_then (λ (f : LineFault). f) (ends_at line (end third)) (λ _. Ok (balance d account num v name))))) s e in
      let b = from_and_then fault.Field (number_at num.text num.place) (λ (v : ℤ). and_then fault.Field (commodity_at (at third)) (λ (name : Spot). and_then (λ (f : LineFault). f) (ends_at line (end third)) (λ _. Ok (balance d a.0 num v name)))) s a.2 in
      let c = from_and_then fault.Field (commodity_at (at third)) (λ (name : Spot). and_then (λ (f : LineFault). f) (ends_at line (end third)) (λ _. Ok (balance d a.0 num b.0 name))) s b.2 in
      let z = from_and_then (λ (f : LineFault). f) (ends_at line (end third)) (λ _. Ok (balance d a.0 num b.0 c.0)) s c.2 in
      let acc = from_account (at from) a.0 a.1 in
      let den = from_number num.text num.place b.0 b.1 in
      let own = from_commodity (at third) c.0 c.1 in (
        at from,
        num,
        b.0,
        at third,
        sym (same_ok z.2) ∙ ap (λ (x : Spot). balance d x num b.0 c.0) (sym acc.0) ∙ ap (λ (x : Spot). balance d (at from) num b.0 x) (sym own.0),
        more IsAccountName no_account from (num ∷ at third ∷ []) acc.1
            (more (λ (t : List ℕ). Denotes t b.0) (no_number b.0) second (at third ∷ []) den (last IsCommodityName no_commodity third z.0 own.1 z.1)),
        acc.1,
        den,
        own.1,
      )

  pub balance_complete : (d from : ℕ) (account n : Spot) (v : ℤ) (c : Spot) → Fields (from + 1) (tail from) (account ∷ n ∷ c ∷ []) → IsAccountName account.text → Denotes n.text v → IsCommodityName c.text → balance_from line d from ≡ Ok (balance d account n v c)
  unfolding balance_from
  balance_complete d from account n v c f acc den own =
      let o = fields_only line from account (n ∷ c ∷ []) f in
      let p = fields_only line (end from) n (c ∷ []) o.1 in
      let r = fields_only line (end (end from)) c [] p.1 in
      let a : account_at (at from) ≡ Ok account = ap account_at o.0 ∙ to_account account acc in
      let m : number_at (at (end from)).text (at (end from)).place ≡ Ok v = ap (λ (s : Spot). number_at s.text s.place) p.0 ∙ to_number n.text n.place v den in
      let k : commodity_at (at (end (end from))) ≡ Ok c = ap commodity_at r.0 ∙ to_commodity c own in
      let e = ends_only line (end (end (end from))) (fields_none _ _ r.1) in
      rw (a, m, k, e) (ap (λ (s : Spot). Ok (balance d account s v c)) p.0)
