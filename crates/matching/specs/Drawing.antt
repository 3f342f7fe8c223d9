-- What a reduction draws, in closed form. M tells the matching lots; lt is the policy's order for the u units asked.
-- Every word looks at the lots as they are before the reduction.
use Rattle.std.specs.Prelude.{ℕ, ◌-◌, min, Bool, true, cond, ◌&&◌, List, [], ◌∷◌, Some, None, Option, ◌==◌, nat_le}
use Rattle.lots.specs.declared.rows.LotRow.{LotRow}
use Rattle.lots.specs.declared.policy.Question.{Question}
use Rattle.lots.specs.Rows.{with_fewer}
use Rattle.lots.specs.Orders.{Order}
use Rattle.matching.specs.declared.wanted.Wanted.{Wanted}
use Rattle.matching.specs.declared.wanted.Draw.{Draw}
use Rattle.matching.specs.Matching.{matches, units_matching, lots_matching}

-- the units of the matching lots that come before r
abbrev pub units_before : (LotRow → Bool) → (LotRow → LotRow → Bool) → List LotRow → LotRow → ℕ
units_before M lt lots r = units_matching (λ y. M y && lt y r) lots

-- what a lot gives of u asked units: the least of its units and of what the matching lots before it leave to ask
abbrev pub gives : (LotRow → Bool) → (LotRow → LotRow → Bool) → ℕ → List LotRow → LotRow → ℕ
gives M lt u lots r = cond (M r) (min r.units (u - units_before M lt lots r)) 0

-- each lot less what it gives; an emptied lot is gone
abbrev pub lots_left : (LotRow → ℕ) → List LotRow → List LotRow
lots_left f [] = []
lots_left f (r ∷ rs) = cond (nat_le r.units (f r)) (lots_left f rs) (with_fewer r (f r) ∷ lots_left f rs)

-- a draw takes its place in the order
abbrev pub insert_draw : (LotRow → LotRow → Bool) → Draw → List Draw → List Draw
insert_draw lt d [] = d ∷ []
insert_draw lt d (e ∷ es) = cond (lt d.lot e.lot) (d ∷ e ∷ es) (e ∷ insert_draw lt d es)

-- the draws from the lots that give something, in the order
abbrev pub draws_in_order : (LotRow → LotRow → Bool) → (LotRow → ℕ) → List LotRow → List Draw
draws_in_order lt f [] = []
draws_in_order lt f (r ∷ rs) = cond (f r == 0) (draws_in_order lt f rs) (insert_draw lt (record { lot = r; units = f r }) (draws_in_order lt f rs))

abbrev pub draws : (LotRow → Bool) → (LotRow → LotRow → Bool) → ℕ → List LotRow → List Draw
draws M lt u lots = draws_in_order lt (gives M lt u lots) lots

abbrev pub left_over : (LotRow → Bool) → (LotRow → LotRow → Bool) → ℕ → List LotRow → List LotRow
left_over M lt u lots = lots_left (gives M lt u lots) lots

abbrev pub earlier : (LotRow → LotRow → Bool) → LotRow → Option LotRow → Option LotRow
earlier lt r None = Some r
earlier lt r (Some b) = cond (lt r b) (Some r) (Some b)

-- the earliest of the matching lots
abbrev pub earliest : (LotRow → Bool) → (LotRow → LotRow → Bool) → List LotRow → Option LotRow
earliest M lt [] = None
earliest M lt (r ∷ rs) = cond (M r) (earlier lt r (earliest M lt rs)) (earliest M lt rs)

-- what the policy is told
abbrev pub question : ℕ → (LotRow → Bool) → List LotRow → LotRow → Question
question u M lots r = record { units = u; lots = lots_matching M lots; earliest = r }

abbrev pub settled_with : (LotRow → Bool) → Option LotRow → Bool
settled_with answer None = true
settled_with answer (Some r) = answer r

-- whether the policy settles a reduction of u units; where no lot matches there is nothing to settle
abbrev pub settled : Order → (LotRow → Bool) → ℕ → List LotRow → Bool
settled o M u lots = settled_with (λ r. o.settles (question u M lots r)) (earliest M (o.before u) lots)

-- the same for what a reduction asks for, under a policy
abbrev pub draws_of : Order → Wanted → ℕ → List LotRow → List Draw
draws_of o w u lots = draws (matches w) (o.before u) u lots

abbrev pub lots_after : Order → Wanted → ℕ → List LotRow → List LotRow
lots_after o w u lots = left_over (matches w) (o.before u) u lots
