-- What a reduction draws, as a relation: it says nothing of how the draws are found.
use Rattle.std.specs.Prelude.{◌≡◌, ℕ, ◌<◌, ◌≤◌, Bool, true, false, cond, ◌⊎◌, List, [], ◌∷◌, ◌==◌}
use Rattle.std.specs.List.{AllByRecursion}
use Rattle.lots.specs.declared.rows.LotRow.{LotRow}
use Rattle.lots.specs.Orders.{Order, Keeps}
use Rattle.matching.specs.declared.wanted.Draw.{Draw}
use Rattle.matching.specs.Sums.{sum_of}
use Rattle.matching.specs.Matching.{units_matching}
use Rattle.matching.specs.Drawing.{lots_left, question}

-- x is one of the list
abbrev pub Member : {X : Type 0} → List X → X → Type 0
Member [] x = ⊥
Member (y ∷ ys) x = (y ≡ x) ⊎ Member ys x

-- each is related to all that come later
abbrev pub AllPairs : {X : Type 0} → (X → X → Type 0) → List X → Type 0
AllPairs R [] = Unit {0}
AllPairs R (x ∷ xs) = AllByRecursion (R x) xs × AllPairs R xs

-- lots stand in the order of their serials, no two of which are equal
abbrev pub SerialsRise : List LotRow → Type 0
SerialsRise lots = AllPairs (λ r s. r.serial < s.serial) lots

-- a draw takes some units of a matching lot, and no more than it has
pub record FromMatch (M : LotRow → Bool) (lots : List LotRow) (d : Draw) : Type 0 where
  pub there : Member lots d.lot
  pub fits : M d.lot ≡ true
  pub some : 1 ≤ d.units
  pub most : d.units ≤ d.lot.units

-- each draw is from a lot that comes before those of the later draws
abbrev pub InOrder : (LotRow → LotRow → Bool) → List Draw → Type 0
InOrder lt ds = AllPairs (λ d e. lt d.lot e.lot ≡ true) ds

-- each matching lot that comes before a drawn one is emptied: a draw of all its units is among the draws
abbrev pub EmptiedBefore : (LotRow → Bool) → (LotRow → LotRow → Bool) → List LotRow → List Draw → Type 0
EmptiedBefore M lt lots ds = AllByRecursion (λ d. (a : LotRow) → Member lots a → M a ≡ true → lt a d.lot ≡ true → Member ds (record { lot = a; units = a.units })) ds

-- the units that draws take from a lot
abbrev pub units_drawn : List Draw → LotRow → ℕ
units_drawn ds r = sum_of (λ d. cond (d.lot.serial == r.serial) d.units 0) ds

-- The draws ds take exactly u units from the lots old, from matching lots alone, in the order,
-- and from a lot only if each matching lot that comes before it is emptied; new is old less what was drawn, and nothing else changed.
pub record Drawn (M : LotRow → Bool) (lt : LotRow → LotRow → Bool) (u : ℕ) (old new : List LotRow) (ds : List Draw) : Type 0 where
  pub exactly : sum_of (λ d. d.units) ds ≡ u
  pub from_matches : AllByRecursion (FromMatch M old) ds
  pub in_order : InOrder lt ds
  pub emptied_before : EmptiedBefore M lt old ds
  pub nothing_else : new ≡ lots_left (units_drawn ds) old

-- the earliest of the matching lots
pub record Earliest (M : LotRow → Bool) (lt : LotRow → LotRow → Bool) (lots : List LotRow) (r : LotRow) : Type 0 where
  pub there : Member lots r
  pub fits : M r ≡ true
  pub least : (a : LotRow) → Member lots a → M a ≡ true → lt a r ≡ false

-- the matching lots hold less than u
abbrev pub TooFew : (LotRow → Bool) → ℕ → List LotRow → Type 0
TooFew M u lots = units_matching M lots < u

-- the matching lots cover u, and the policy, asked with the earliest of them, does not settle
abbrev pub Unsettled : Order → (LotRow → Bool) → ℕ → List LotRow → Type 0
Unsettled o M u lots = (u ≤ units_matching M lots) × ((r : LotRow) × Earliest M (o.before u) lots r × (o.settles (question u M lots r) ≡ false))

-- Of a policy that keeps the laws, no two lists of draws answer one reduction, and no two lists of lots are left.
abbrev pub OneAnswer : Type 0
OneAnswer =
    (o : Order) → Keeps o → (M : LotRow → Bool) (u : ℕ) (old new_one new_two : List LotRow) (one two : List Draw) → SerialsRise old
    → Drawn M (o.before u) u old new_one one → Drawn M (o.before u) u old new_two two → (one ≡ two) × (new_one ≡ new_two)
