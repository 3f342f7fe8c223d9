-- What a call that is not refused tells: no test of its table is met.
use Rattle.std.proofs.Common.{◌≡◌, ℕ, ◌+◌, ◌<◌, ◌≤◌, Bool, true, false, cond, not, List, [], ◌∷◌, ◌++◌, length, is_some, Some, None, Option, sym, refl, ◌∙◌, arith}
use Rattle.std.specs.List.{AllByRecursion, position_from}
use Rattle.std.proofs.lemmas.Bool.{cond_both, true≢false}
use Rattle.refusal.specs.declared.Refusal.{Refusal}
use Rattle.refusal.specs.declared.Fault.{Fault}
use Rattle.refusal.specs.Table.{number_of}
use Rattle.refusal.specs.Refusing.{first_met}
use Rattle.booking.specs.Booking.{at_line}
use Rattle.books.specs.Lookups.{number_or_0}
use Rattle.books.specs.Refusals.{tests_at, first_fault_met}
use Rattle.books.proofs.Nested.{first_at}
use Rattle.std.proofs.lemmas.Option.{none-some}
use Rattle.std.specs.Option.{option_map, option_or}

-- the number of a refusal, and of a fault, if there is one
abbrev pub refusal_number : Option Refusal → Option ℕ
refusal_number r = option_map number_of r

abbrev pub fault_number : Option Fault → Option ℕ
fault_number f = option_map (λ x. number_of x.refusal) f

abbrev pub Unmet : List (Refusal × Bool) → Type 0
Unmet ts = AllByRecursion (λ t. t.1 ≡ false) ts

-- a test that is not met, and what is behind it
pub unrefused : {X : Type 0} (b : Bool) (f : X) (rest : Option X) → cond b (Some f) rest ≡ None → (b ≡ false) × (rest ≡ None)
unrefused true f rest e = absurd (none-some f (sym e))
unrefused false f rest e = (refl, e)

pub none_met : (ts : List (Refusal × Bool)) → first_met ts ≡ None → Unmet ts
none_met [] e = tt
none_met (t ∷ ts) e =
    let met = unrefused t.1 t.0 (first_met ts) e in
    (met.0, none_met ts met.1)

pub no_line : (line : ℕ) (m : Option Refusal) → at_line line m ≡ None → m ≡ None
no_line line None e = refl
no_line line (Some r) e = cc

pub none_met_at : (line : ℕ) (ts : List (Refusal × Bool)) → first_fault_met (tests_at line ts) ≡ None → Unmet ts
none_met_at line ts e = none_met ts (no_line line (first_met ts) (sym (first_at line ts) ∙ e))

-- what holds of all of two lists holds of all of each
pub all_front : {X : Type 0} (P : X → Type 0) (xs ys : List X) → AllByRecursion P (xs ++ ys) → AllByRecursion P xs
all_front P [] ys all = tt
all_front P (x ∷ xs) ys all = (all.0, all_front P xs ys all.1)

pub all_right : {X : Type 0} (P : X → Type 0) (xs ys : List X) → AllByRecursion P (xs ++ ys) → AllByRecursion P ys
all_right P [] ys all = all
all_right P (x ∷ xs) ys all = all_right P xs ys all.1

pub both_none : (x y : Option Fault) → option_or x y ≡ None → (x ≡ None) × (y ≡ None)
both_none None y e = (refl, e)
both_none (Some f) y e = absurd (none-some f (sym e))

-- a number that no refusal of the list has does not come back
pub number_differs : (ts : List (Refusal × Bool)) (n line : ℕ) → AllByRecursion (λ t. number_of t.0 ≡ n → ⊥) ts → fault_number (at_line line (first_met ts)) ≡ Some n → ⊥
number_differs [] n line all e = cc
number_differs (t ∷ ts) n line all e =
    cond_both t.1 (Some t.0) (first_met ts) (λ m. fault_number (at_line line m) ≡ Some n → ⊥) (λ _ e. all.0 (cc)) (λ _. number_differs ts n line all.1) e

-- a number that is found counts one of the list
pub number_there : {X : Type 0} (test : X → Bool) (n : ℕ) (xs : List X) → not (is_some (position_from test n xs)) ≡ false
    → (n ≤ number_or_0 (position_from test n xs)) × (number_or_0 (position_from test n xs) < n + length xs)
number_there test n [] e = absurd (true≢false e)
number_there test n (x ∷ xs) found =
    let ih = number_there test (n + 1) xs in
    (grind arith, grind arith)
