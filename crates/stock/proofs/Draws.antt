-- One draw after another gives what the closed form says.
use Rattle.std.proofs.lemmas.Grind.{common_steps}
use Rattle.std.proofs.Common.{◌≡◌, ℕ, suc, ◌+◌, ◌-◌, ◌<◌, ◌≤◌, Bool, true, leb, ◌⊎◌, List, [], ◌∷◌, ◌++◌, length, get_or, take, drop, set, sym, ap, ◌∙◌, subst, inl, append_assoc, arith}
use Rattle.std.specs.List.{remove, list_all, AllByRecursion}
use Rattle.std.proofs.lemmas.List.{append-nil, length_push, length-set}
use Rattle.std.proofs.ByRecursion.{All-get_or, All-set}
use Rattle.std.proofs.lemmas.Bool.{cond_both, leb-true, leb-false}
use Rattle.std.proofs.lemmas.Bool.Decides.{nat_tests}
use Rattle.lots.specs.declared.rows.LotRow.{LotRow}
use Rattle.lots.specs.Rows.{no_lot, with_fewer}
use Rattle.lots.specs.Orders.{Order, Keeps}
use Rattle.matching.specs.declared.wanted.Draw.{Draw}
use Rattle.matching.specs.Places.{NoneMatch, EarliestAt}
use Rattle.matching.specs.Drawing.{draws, left_over}
use Rattle.matching.proofs.Steps.{Leads, draws_whole, left_whole, draws_part, left_in_part, draws_nothing, left_all}
use Rattle.matching.proofs.Splits.{split_at, set_at, length_split, all_without, leads_at}
use Rattle.stock.specs.Tables.{Table}
use Rattle.stock.specs.Places.{taken_at}
use Rattle.stock.specs.Promises.{draw_in_range}
use Rattle.stock.specs.Kept.{WellKept}
use Rattle.stock.proofs.Keeping.{some_units}

-- what is left to ask of the lots that are left gives the rest of the answer
pub record UnderWay (M : LotRow → Bool) (lt : LotRow → LotRow → Bool) (u : ℕ) (old now : Table) (ds : List Draw) (left : ℕ) : Type 0 where
  pub drawn : ds ++ draws M lt left now.lots ≡ draws M lt u old.lots
  pub after : left_over M lt left now.lots ≡ left_over M lt u old.lots
  pub next : now.next ≡ old.next
  pub in_range : list_all draw_in_range ds ≡ true
  -- each lot that was drawn from is gone but the last, and that one is when more is asked
  pub counted : 0 < left → length ds + length now.lots ≡ length old.lots
  pub room : length ds + length now.lots ≤ length old.lots + 1
  pub few : 0 < length ds → length old.lots ≤ 256

module _ (o : Order) (keeps : Keeps o) (M : LotRow → Bool) (u : ℕ) (old now : Table) (ds : List Draw) (left : ℕ)
    (kept : WellKept now) (w : UnderWay M (o.before u) u old now ds left) where
  abbrev lt : LotRow → LotRow → Bool
  lt = o.before u

  some : AllByRecursion (λ r. 1 ≤ r.units) now.lots
  some = some_units now.lots kept.ranges

  module _ (l : 0 < left) (i : ℕ) (e : EarliestAt M lt now.lots (length now.lots) i) where
    abbrev x : LotRow
    x = get_or now.lots i no_lot

    units_x : 1 ≤ x.units
    units_x = All-get_or (λ r. 1 ≤ r.units) now.lots i no_lot e.within some

    drawn_in_range : (n : ℕ) → n ≤ x.units → list_all draw_in_range (ds ++ record { lot = x; units = n } ∷ []) ≡ true
    drawn_in_range n h = grind (arith, common_steps)

    few_now : length old.lots ≤ 256
    few_now = grind (arith, nat_tests)

    split : now.lots ≡ take i now.lots ++ x ∷ drop (suc i) now.lots
    split = split_at now.lots i no_lot e.within

    leads : Leads M lt (take i now.lots) x (drop (suc i) now.lots)
    leads = leads_at o keeps M u now.lots kept.serials_rise i e

    -- the whole of the earliest lot
    whole : x.units ≤ left → UnderWay M lt u old (record { lots = remove now.lots i; next = now.next }) (ds ++ record { lot = x; units = x.units } ∷ []) (left - x.units)
    whole h =
        let d : Draw = record { lot = x; units = x.units } in
        let rest = remove now.lots i in
        let step = draws_whole M lt (take i now.lots) x (drop (suc i) now.lots) leads left units_x h in
        let over = left_whole M lt (take i now.lots) x (drop (suc i) now.lots) leads left h in
        let n = ap length split ∙ length_split (take i now.lots) x (drop (suc i) now.lots) in
        let all = w.counted l in
        record {
          drawn = append_assoc ds (d ∷ []) (draws M lt (left - x.units) rest) ∙ ap (λ (es : List Draw). ds ++ es) (sym (ap (draws M lt left) split ∙ step)) ∙ w.drawn;
          after = sym (ap (left_over M lt left) split ∙ over) ∙ w.after;
          next = w.next;
          in_range = drawn_in_range x.units (omega arith);
          counted = λ _. omega (arith, length_push ds d);
          room = omega (arith, length_push ds d);
          few = λ _. few_now;
        }

    -- a part of it, which ends the drawing
    part : left < x.units → UnderWay M lt u old (record { lots = set now.lots i (with_fewer x left); next = now.next }) (ds ++ record { lot = x; units = left } ∷ []) (left - left)
    part h =
        let d : Draw = record { lot = x; units = left } in
        let rest = set now.lots i (with_fewer x left) in
        let none : left - left ≡ 0 = omega arith in
        let all = w.counted l in
        let step : draws M lt left now.lots ≡ d ∷ [] = ap (draws M lt left) split ∙ draws_part M lt (take i now.lots) x (drop (suc i) now.lots) leads left l h in
        let others = all_without (λ r. 1 ≤ r.units) (take i now.lots) x (drop (suc i) now.lots) (subst (AllByRecursion (λ r. 1 ≤ r.units)) split some) in
        let over : left_over M lt left now.lots ≡ rest = ap (left_over M lt left) split ∙ left_in_part M lt (take i now.lots) x (drop (suc i) now.lots) leads left h others ∙ sym (set_at now.lots i (with_fewer x left) e.within) in
        record {
          drawn = ap (λ (es : List Draw). (ds ++ d ∷ []) ++ es) (draws_nothing M lt (left - left) rest (inl none)) ∙ append-nil (ds ++ d ∷ []) ∙ ap (λ (es : List Draw). ds ++ es) (sym step) ∙ w.drawn;
          after = left_all M lt (left - left) rest (inl none) (All-set (λ r. 1 ≤ r.units) now.lots i (with_fewer x left) (omega arith) some) ∙ sym over ∙ w.after;
          next = w.next;
          in_range = drawn_in_range left (omega arith);
          counted = λ some. absurd (omega arith);
          room = omega (arith, length_push ds d, length-set now.lots i (with_fewer x left));
          few = λ _. few_now;
        }

    -- either
    pub taken : (d : Draw) (after : Table) → (d, after) ≡ taken_at i left now → UnderWay M lt u old after (ds ++ d ∷ []) (left - d.units)
    taken d after is =
        subst (λ (q : Draw × Table). UnderWay M lt u old q.1 (ds ++ q.0 ∷ []) (left - q.0.units)) (sym is)
        (cond_both (leb x.units left) (record { lot = x; units = x.units }, record { lots = remove now.lots i; next = now.next }) (record { lot = x; units = left }, record { lots = set now.lots i (with_fewer x left); next = now.next })
        (λ (q : Draw × Table). UnderWay M lt u old q.1 (ds ++ q.0 ∷ []) (left - q.0.units))
        (λ h. whole (leb-true x.units left h)) (λ h. part (leb-false x.units left h)))

  -- nothing is left to ask, or no lot to draw from
  pub finished : (left ≡ 0) ⊎ NoneMatch M now.lots (length now.lots) → (ds ≡ draws M lt u old.lots) × (now ≡ record { lots = left_over M lt u old.lots; next = old.next })
  finished none = (
    sym (ap (λ (es : List Draw). ds ++ es) (draws_nothing M lt left now.lots none) ∙ append-nil ds) ∙ w.drawn,
    λ i. record { lots = (sym (left_all M lt left now.lots none some) ∙ w.after) i; next = w.next i },
  )
