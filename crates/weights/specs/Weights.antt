-- What amounts and lots weigh, in unrounded ten-thousandths of a commodity.
use Rattle.std.specs.Prelude.{List, cond, ℕ, ◌*◌, eqb, ℤ, pos, ◌*ℤ◌, neg_ℤ}
use Rattle.lots.specs.declared.rows.Key.{Key}
use Rattle.matching.specs.declared.wanted.Draw.{Draw}
use Rattle.matching.specs.Sums.{sum_of_ints}
use Rattle.weights.specs.declared.Weight.{Weight}

-- a plain amount, a whole number of hundredths
abbrev pub plain_weight : ℤ → ℕ → Weight
plain_weight z c = record { commodity = c; amount = z *ℤ pos 100 }

-- n units at the cost of their key
abbrev pub purchase_weight : Key → ℕ → Weight
purchase_weight k n = record { commodity = k.cost.commodity; amount = pos (n * k.cost.number) }

abbrev pub draw_weight : Draw → Weight
draw_weight d = record { commodity = d.lot.key.cost.commodity; amount = neg_ℤ (pos (d.units * d.lot.key.cost.number)) }

-- what a weight says in a commodity
abbrev pub weight_in : ℕ → Weight → ℤ
weight_in c w = cond (eqb w.commodity c) w.amount (pos 0)

-- what draws weigh together in a commodity
abbrev pub draws_weigh : ℕ → List Draw → ℤ
draws_weigh c ds = sum_of_ints (λ d. weight_in c (draw_weight d)) ds
