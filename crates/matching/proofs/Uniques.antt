-- `Drawn` leaves one answer.
use Rattle.std.proofs.Common.{◌≡◌, ℕ, ◌-◌, ◌≤◌, min, Bool, true, false, cond, eqb, ◌⊎◌, List, [], ◌∷◌, sym, refl, ap, ◌∙◌, subst, inl, inr, arith}
use Rattle.std.specs.List.{AllByRecursion}
use Rattle.std.proofs.ByRecursion.{All-weaker}
use Rattle.std.proofs.lemmas.Bool.Decides.{nat_tests}
use Rattle.lots.specs.declared.rows.LotRow.{LotRow}
use Rattle.matching.specs.declared.wanted.Draw.{Draw}
use Rattle.matching.specs.Sums.{sum_of}
use Rattle.matching.specs.Drawing.{lots_left}
use Rattle.matching.specs.Drawn.{Member, FromMatch, InOrder, units_drawn, Drawn, OneAnswer}
use Rattle.matching.proofs.Drawing.{all_member, all_from_member, insert, sorted, Ordered, ordered_sorted}

member_inserted : (lt : LotRow → LotRow → Bool) (r x : LotRow) (xs : List LotRow) → (r ≡ x) ⊎ Member xs x → Member (insert lt r xs) x
member_inserted lt r x [] m = m
member_inserted lt r x (y ∷ ys) m =
    let ih = member_inserted lt r x ys in
    grind arith

inserted_member : (lt : LotRow → LotRow → Bool) (r x : LotRow) (xs : List LotRow) → Member (insert lt r xs) x → (r ≡ x) ⊎ Member xs x
inserted_member lt r x [] = λ m. m
inserted_member lt r x (y ∷ ys) = let ih = inserted_member lt r x ys in grind arith

member_sorted : (M : LotRow → Bool) (lt : LotRow → LotRow → Bool) (x : LotRow) (xs : List LotRow) → Member xs x → M x ≡ true → Member (sorted M lt xs) x
member_sorted M lt x [] m f = absurd m
member_sorted M lt x (r ∷ rs) m f =
    let ih = member_sorted M lt x rs in
    let more = member_inserted lt r x (sorted M lt rs) in
    grind arith

sorted_member : (M : LotRow → Bool) (lt : LotRow → LotRow → Bool) (x : LotRow) (xs : List LotRow) → Member (sorted M lt xs) x → Member xs x × (M x ≡ true)
sorted_member M lt x [] = λ m. absurd m
sorted_member M lt x (r ∷ rs) = λ m.
    let ih = sorted_member M lt x rs in
    let less = inserted_member lt r x (sorted M lt rs) in
    (grind arith, grind arith)

-- draws from lots in order, each to its last unit
abbrev in_turn : ℕ → List LotRow → List Draw
in_turn u [] = []
in_turn u (z ∷ zs) = cond (eqb u 0) [] (record { lot = z; units = min z.units u } ∷ in_turn (u - z.units) zs)

in_turn_none : (u : ℕ) (zs : List LotRow) → u ≡ 0 → [] ≡ in_turn u zs
in_turn_none u [] e = refl
in_turn_none u (z ∷ zs) e = grind (arith, nat_tests)

record From (zs : List LotRow) (d : Draw) : Type 0 where
  there : Member zs d.lot
  some : 1 ≤ d.units
  most : d.units ≤ d.lot.units

record Fits (lt : LotRow → LotRow → Bool) (u : ℕ) (zs : List LotRow) (ds : List Draw) : Type 0 where
  exactly : sum_of (λ d. d.units) ds ≡ u
  each : AllByRecursion (From zs) ds
  order : InOrder lt ds
  emptied : AllByRecursion (λ d. (a : LotRow) → Member zs a → lt a d.lot ≡ true → Member ds (record { lot = a; units = a.units })) ds

module _ (lt : LotRow → LotRow → Bool) (irr : (a : LotRow) → lt a a ≡ false) (trans : (a b c : LotRow) → lt a b ≡ true → lt b c ≡ true → lt a c ≡ true) where
  -- a lot drawn first is the first of the lots
  first_lot : (z : LotRow) (zs : List LotRow) (d : Draw) (ds : List Draw) → Ordered lt (z ∷ zs) → AllByRecursion (λ e. lt d.lot e.lot ≡ true) ds → From (z ∷ zs) d
      → ((a : LotRow) → Member (z ∷ zs) a → lt a d.lot ≡ true → Member (d ∷ ds) (record { lot = a; units = a.units })) → z ≡ d.lot
  first_lot z zs d ds o later from emptied =
      let before = all_member (λ s. lt z s ≡ true) zs d.lot o.0 in
      let back = all_member (λ e. lt d.lot e.lot ≡ true) ds (record { lot = z; units = z.units }) later in
      let first = emptied z (inl refl) in
      let own = irr z in
      let t = trans z d.lot z in
      let there = from.there in
      grind arith

  fits_in_turn : (zs : List LotRow) (u : ℕ) (ds : List Draw) → Ordered lt zs → Fits lt u zs ds → ds ≡ in_turn u zs
  fits_in_turn [] u [] o f = refl
  fits_in_turn [] u (d ∷ ds) o f = absurd f.each.0.there
  fits_in_turn (z ∷ zs) u [] o f = in_turn_none u (z ∷ zs) (sym f.exactly)
  fits_in_turn (z ∷ zs) u (d ∷ []) o f =
      let from = f.each.0 in
      let lot = first_lot z zs d [] o tt from f.emptied.0 in
      let some = from.some in
      let most = from.most in
      let all = f.exactly in
      let rest = in_turn_none (u - z.units) zs in
      grind (arith, nat_tests)
  fits_in_turn (z ∷ zs) u (d ∷ e ∷ es) o f =
      let from = f.each.0 in
      let later = f.order.0 in
      let lot = first_lot z zs d (e ∷ es) o later from f.emptied.0 in
      let after = subst (λ (r : LotRow). AllByRecursion (λ x. lt r x.lot ≡ true) (e ∷ es)) (sym lot) later in
      let whole : d ≡ record { lot = z; units = z.units } =
      let first = f.emptied.1.0 z (inl refl) after.0 in
      let back = all_member (λ x. lt z x.lot ≡ true) (e ∷ es) (record { lot = z; units = z.units }) after in
      let own = irr z in
      grind arith in
      let n : d.units ≡ z.units = cc in
      let all = f.exactly in
      let some = from.some in
      let narrowed : AllByRecursion (From zs) (e ∷ es) = all_from_member (From zs) (e ∷ es) (λ x m.
      let from_x = all_member (From (z ∷ zs)) (e ∷ es) x f.each.1 m in
      record {
        there =
            let there = from_x.there in
            let before = all_member (λ y. lt z y.lot ≡ true) (e ∷ es) x after m in
            let own = irr z in
            grind arith;
        some = from_x.some;
        most = from_x.most;
      }) in
      let rest : Fits lt (u - z.units) zs (e ∷ es) = record {
        exactly = omega arith;
        each = narrowed;
        order = f.order.1;
        emptied = All-weaker (λ x. (a : LotRow) → Member (z ∷ zs) a → lt a x.lot ≡ true → Member (d ∷ e ∷ es) (record { lot = a; units = a.units })) (λ x. (a : LotRow) → Member zs a → lt a x.lot ≡ true → Member (e ∷ es) (record { lot = a; units = a.units }))
            (λ x g a there before.
            let drawn = g a (inr there) before in
            let first = all_member (λ s. lt z s ≡ true) zs a o.0 there in
            let own = irr z in
            grind arith)
            (e ∷ es) f.emptied.1;
      } in
      let later = fits_in_turn zs (u - z.units) (e ∷ es) o.1 rest in
      grind (arith, nat_tests)

  drawn_fits : (M : LotRow → Bool) (u : ℕ) (old new : List LotRow) (ds : List Draw) → Drawn M lt u old new ds → Fits lt u (sorted M lt old) ds
  drawn_fits M u old new ds D = record {
    exactly = D.exactly;
    each = All-weaker (FromMatch M old) (From (sorted M lt old)) (λ d t. record { there = member_sorted M lt d.lot old t.there t.fits; some = t.some; most = t.most }) ds D.from_matches;
    order = D.in_order;
    emptied = All-weaker (λ d. (a : LotRow) → Member old a → M a ≡ true → lt a d.lot ≡ true → Member ds (record { lot = a; units = a.units })) (λ d. (a : LotRow) → Member (sorted M lt old) a → lt a d.lot ≡ true → Member ds (record { lot = a; units = a.units }))
        (λ d g a m before. let h = sorted_member M lt a old m in g a h.0 h.1 before) ds D.emptied_before;
  }

pub one_answer : OneAnswer
one_answer o keeps M u old new_one new_two one two ri D E =
    let lt = o.before u in
    let ordered = ordered_sorted M lt (keeps.irreflexive u) (keeps.transitive u) (keeps.exactly_one u) old ri in
    let by = λ (new : List LotRow) (ds : List Draw) (F : Drawn M lt u old new ds). fits_in_turn lt (keeps.irreflexive u) (keeps.transitive u) (sorted M lt old) u ds ordered (drawn_fits lt (keeps.irreflexive u) (keeps.transitive u) M u old new ds F) in
    let same : one ≡ two = by new_one one D ∙ sym (by new_two two E) in
    (same, D.nothing_else ∙ ap (λ (ds : List Draw). lots_left (units_drawn ds) old) same ∙ sym E.nothing_else)
