-- What a booking policy means, the laws that it keeps, and the four policies.
use Rattle.std.specs.Prelude.{◌≡◌, ℕ, Bool, true, false, cond, not, ◌&&◌, ◌||◌, List, codes, ◌==◌, ◌≢◌, bit_or, nat_lt}
use Rattle.lots.specs.declared.rows.LotRow.{LotRow}
use Rattle.lots.specs.declared.policy.Question.{Question}

pub record Order : Type 0 where
  pub name : List ℕ
  pub code : ℕ
  -- for asked units and two lots: whether the first is drawn before the second
  pub before : ℕ → LotRow → LotRow → Bool
  -- for asked units, the number of matching lots and the earliest of them: whether the reduction is settled
  pub settles : Question → Bool

-- the two laws: for each u a strict order that tells lots of different serials apart, and one matching lot settles
pub record Keeps (o : Order) : Type 0 where
  pub irreflexive : (u : ℕ) (a : LotRow) → o.before u a a ≡ false
  pub transitive : (u : ℕ) (a b c : LotRow) → o.before u a b ≡ true → o.before u b c ≡ true → o.before u a c ≡ true
  pub exactly_one : (u : ℕ) (a b : LotRow) → (a.serial ≢ b.serial) → o.before u a b ≡ not (o.before u b a)
  pub one_settles : (q : Question) → q.lots ≡ 1 → o.settles q ≡ true

-- the smaller serial
abbrev pub by_serial : LotRow → LotRow → Bool
by_serial a b = nat_lt a.serial b.serial

-- the earlier lot date, then the smaller serial
abbrev pub by_date : LotRow → LotRow → Bool
by_date a b = nat_lt a.key.date b.key.date || (a.key.date == b.key.date && by_serial a b)

abbrev pub strict : Order
strict = record { name = codes "STRICT"; code = 1; before = λ u a b. by_serial a b; settles = λ q. (q.lots == 1) }

abbrev pub fifo : Order
fifo = record { name = codes "FIFO"; code = 2; before = λ u a b. by_date a b; settles = λ q. true }

-- the later lot date, then the larger serial
abbrev pub lifo : Order
lifo = record { name = codes "LIFO"; code = 3; before = λ u a b. by_date b a; settles = λ q. true }

abbrev pub is_whole : ℕ → LotRow → Bool
is_whole u a = a.units == u

-- Whole-lot: a lot of exactly u units comes before one that has not, otherwise the policy below decides.
-- It settles if the earliest lot has exactly u units, otherwise as below.
abbrev pub whole_lot : Order → Order
whole_lot o = record {
  name = o.name;
  code = bit_or o.code 8;
  before = λ u a b. cond (is_whole u a) (cond (is_whole u b) (o.before u a b) true) (cond (is_whole u b) false (o.before u a b));
  settles = λ q. is_whole q.units q.earliest || o.settles q;
}
