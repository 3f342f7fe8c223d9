-- What a purchase and a reduction promise, in words that say nothing of how they are carried out.
use Rattle.std.specs.Prelude.{◌≡◌, ℕ, ◌+◌, ◌≤◌, Bool, cond, List, Some, None, Ok, Err, Option, Result, nat_le}
use Rattle.refusal.specs.declared.Refusal.{Refusal}
use Rattle.refusal.specs.Table.{number_of}
use Rattle.lots.specs.declared.rows.Key.{Key}
use Rattle.lots.specs.Rows.{most, same_key}
use Rattle.lots.specs.Orders.{Order}
use Rattle.matching.specs.declared.wanted.Wanted.{Wanted}
use Rattle.matching.specs.declared.wanted.Draw.{Draw}
use Rattle.matching.specs.Matching.{matches, units_matching, lots_matching}
use Rattle.matching.specs.Drawn.{Drawn}
use Rattle.stock.specs.Tables.{Table, units_of_key}

abbrev pub map_ok : {X Y E : Type 0} → (X → Y) → Result X E → Result Y E
map_ok f (Ok x) = Ok (f x)
map_ok f (Err e) = Err e

-- the number of the refusal, if there is one
abbrev pub refused_by : {X : Type 0} → Result X Refusal → Option ℕ
refused_by (Ok x) = None
refused_by (Err e) = Some (number_of e)

-- refused with number n where, and only where, a fact holds
pub record RefusedExactly {X : Type 0} (n : ℕ) (Fact : Type 0) (r : Result X Refusal) : Type 0 where
  pub only_where : refused_by r ≡ Some n → Fact
  pub wherever : Fact → refused_by r ≡ Some n

-- an accepted purchase brings n units to its key, and none to another
abbrev pub BringsUnits : Key → ℕ → Table → Result ℕ Refusal × Table → Type 0
BringsUnits k n t (Ok serial, after) = (j : Key) → units_of_key j after.lots ≡ units_of_key j t.lots + cond (same_key k j) n 0
BringsUnits k n t (Err e, after) = Unit {0}

-- An accepted reduction draws exactly u units, from matching lots alone, in the policy's order,
-- from a lot only if each matching lot that the policy puts earlier is emptied, and changes nothing else
abbrev pub DrawsEarliestFirst : Order → Wanted → ℕ → Table → Result (List Draw) Refusal × Table → Type 0
DrawsEarliestFirst o w u t (Ok ds, after) = Drawn (matches w) (o.before u) u t.lots after.lots ds × (after.next ≡ t.next)
DrawsEarliestFirst o w u t (Err e, after) = Unit {0}

-- a draw has no more units than a lot can have
abbrev pub draw_in_range : Draw → Bool
draw_in_range d = nat_le d.units most

-- where one lot matches and covers u, the reduction is accepted, whatever the policy
abbrev pub AcceptedWithOneMatch : {X : Type 0} → Wanted → ℕ → Table → Result X Refusal → Type 0
AcceptedWithOneMatch w u t r = lots_matching (matches w) t.lots ≡ 1 → u ≤ units_matching (matches w) t.lots → refused_by r ≡ None

-- refused, a call keeps every lot and the next serial
abbrev pub KeptIfRefused : {X : Type 0} → Table → Result X Refusal × Table → Type 0
KeptIfRefused t (Ok x, after) = Unit {0}
KeptIfRefused t (Err e, after) = after ≡ t
