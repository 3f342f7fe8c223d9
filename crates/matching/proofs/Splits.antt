-- A list as the part before one element, that element, and the part behind it.
use Rattle.std.proofs.Common.{◌≡◌, ℕ, zero, suc, ◌+◌, ◌<◌, Bool, true, false, not, List, [], ◌∷◌, ◌++◌, length, get_or, take, drop, set, refl, ap, sym, ◌∙◌, subst, arith, drop-cons}
use Rattle.std.specs.List.{AllByRecursion}
use Rattle.std.proofs.lemmas.List.{take-append-drop}
use Rattle.std.proofs.ByRecursion.{All-weaker, All-push}
use Rattle.lots.specs.declared.rows.LotRow.{LotRow}
use Rattle.lots.specs.Orders.{Order, Keeps}
use Rattle.lots.specs.Rows.{no_lot}
use Rattle.matching.specs.Places.{EarliestAt}
use Rattle.matching.specs.Drawn.{AllPairs, SerialsRise}
use Rattle.matching.proofs.Drawing.{all_from_member}
use Rattle.matching.proofs.Earliest.{earliest_at}
use Rattle.matching.proofs.Steps.{Leads}

-- by place
pub split_at : {X : Type 0} (xs : List X) (i : ℕ) (d : X) → i < length xs → xs ≡ take i xs ++ get_or xs i d ∷ drop (suc i) xs
split_at xs i d h = sym (take-append-drop i xs) ∙ ap (λ ys. take i xs ++ ys) (drop-cons xs i d h)

pub set_at : {X : Type 0} (xs : List X) (i : ℕ) (y : X) → i < length xs → set xs i y ≡ take i xs ++ y ∷ drop (suc i) xs
set_at [] i y h = absurd (omega arith)
set_at (x ∷ xs) zero y h = refl
set_at (x ∷ xs) (suc i) y h = ap (λ ys. x ∷ ys) (set_at xs i y (omega arith))

pub length_split : {X : Type 0} (ys : List X) (x : X) (zs : List X) → length (ys ++ x ∷ zs) ≡ length (ys ++ zs) + 1
length_split [] x zs = omega arith
length_split (y ∷ ys) x zs = let ih = length_split ys x zs in omega arith

-- what holds of each element
pub all_here : {X : Type 0} (P : X → Type 0) (ys : List X) (x : X) (zs : List X) → AllByRecursion P (ys ++ x ∷ zs) → P x
all_here P [] x zs all = all.0
all_here P (y ∷ ys) x zs all = all_here P ys x zs all.1

pub all_without : {X : Type 0} (P : X → Type 0) (ys : List X) (x : X) (zs : List X) → AllByRecursion P (ys ++ x ∷ zs) → AllByRecursion P (ys ++ zs)
all_without P [] x zs all = all.1
all_without P (y ∷ ys) x zs all = (all.0, all_without P ys x zs all.1)

pub all_replaced : {X : Type 0} (P : X → Type 0) (ys : List X) (x x' : X) (zs : List X) → P x' → AllByRecursion P (ys ++ x ∷ zs) → AllByRecursion P (ys ++ x' ∷ zs)
all_replaced P [] x x' zs p all = (p, all.1)
all_replaced P (y ∷ ys) x x' zs p all = (all.0, all_replaced P ys x x' zs p all.1)

-- what holds of each pair
pub pairs_without : {X : Type 0} (R : X → X → Type 0) (ys : List X) (x : X) (zs : List X) → AllPairs R (ys ++ x ∷ zs) → AllPairs R (ys ++ zs)
pairs_without R [] x zs p = p.1
pairs_without R (y ∷ ys) x zs p = (all_without (R y) ys x zs p.0, pairs_without R ys x zs p.1)

pub pairs_replaced : {X : Type 0} (R : X → X → Type 0) (ys : List X) (x x' : X) (zs : List X) → ((r : X) → R r x → R r x') → ((r : X) → R x r → R x' r) → AllPairs R (ys ++ x ∷ zs) → AllPairs R (ys ++ x' ∷ zs)
pairs_replaced R [] x x' zs behind front p = (All-weaker (R x) (R x') front zs p.0, p.1)
pairs_replaced R (y ∷ ys) x x' zs behind front p = (all_replaced (R y) ys x x' zs (behind y (all_here (R y) ys x zs p.0)) p.0, pairs_replaced R ys x x' zs behind front p.1)

pub pairs_push : {X : Type 0} (R : X → X → Type 0) (xs : List X) (x : X) → AllByRecursion (λ r. R r x) xs → AllPairs R xs → AllPairs R (xs ++ x ∷ [])
pairs_push R [] x all p = (tt, tt)
pairs_push R (y ∷ ys) x all p = (All-push (R y) ys x p.0 all.0, pairs_push R ys x all.1 p.1)

-- each other element stands before x or behind it
pub pairs_others : {X : Type 0} (R : X → X → Type 0) (P : X → Type 0) (ys : List X) (x : X) (zs : List X) → ((r : X) → R r x → P r) → ((r : X) → R x r → P r) → AllPairs R (ys ++ x ∷ zs) → AllByRecursion P (ys ++ zs)
pairs_others R P [] x zs before behind p = All-weaker (R x) P behind zs p.0
pairs_others R P (y ∷ ys) x zs before behind p = (before y (all_here (R y) ys x zs p.0), pairs_others R P ys x zs before behind p.1)

pub all_zip : {X : Type 0} (P Q R : X → Type 0) → ((x : X) → P x → Q x → R x) → (xs : List X) → AllByRecursion P xs → AllByRecursion Q xs → AllByRecursion R xs
all_zip P Q R f [] p q = tt
all_zip P Q R f (x ∷ xs) p q = (f x p.0 q.0, all_zip P Q R f xs p.1 q.1)

-- the earliest lot comes before each other that matches
pub leads_at : (o : Order) → Keeps o → (M : LotRow → Bool) (u : ℕ) (xs : List LotRow) → SerialsRise xs → (i : ℕ) → EarliestAt M (o.before u) xs (length xs) i
    → Leads M (o.before u) (take i xs) (get_or xs i no_lot) (drop (suc i) xs)
leads_at o keeps M u xs rise i e =
    let lt = o.before u in
    let x = get_or xs i no_lot in
    let first = earliest_at M lt xs i e in
    let split = split_at xs i no_lot e.within in
    let least = all_from_member (λ r. M r ≡ true → lt r x ≡ false) xs (λ r there fits. first.least r there fits) in
    let apart = pairs_others (λ r s. r.serial < s.serial) (λ r. x.serial ≡ r.serial → ⊥) (take i xs) x (drop (suc i) xs) (λ r l q. omega arith) (λ r l q. omega arith)
    (subst (λ (zs : List LotRow). SerialsRise zs) split rise) in
    record {
      fits = e.fits;
      own = keeps.irreflexive u x;
      others = all_zip (λ r. M r ≡ true → lt r x ≡ false) (λ r. x.serial ≡ r.serial → ⊥) (λ r. M r ≡ true → (lt r x ≡ false) × (lt x r ≡ true))
          (λ r l ne fits. (l fits, keeps.exactly_one u x r ne ∙ ap not (l fits)))
          (take i xs ++ drop (suc i) xs)
          (all_without (λ r. M r ≡ true → lt r x ≡ false) (take i xs) x (drop (suc i) xs) (subst (λ (zs : List LotRow). AllByRecursion (λ r. M r ≡ true → lt r x ≡ false) zs) split least))
          apart;
    }
