-- Text that is written part by part.
use Rattle.std.proofs.Common.{◌≡◌, ℕ, List, [], ◌++◌, Ok, Err, Result, sym, ap, ◌∙◌}
use Rattle.std.specs.Result.{OnOk}
use Rattle.std.proofs.lemmas.List.{append_assoc, append-nil}

-- what is written so far, and what is left to write, make the whole
pub next : (m b rest : List ℕ) {n w : List ℕ} → m ++ (b ++ rest) ≡ w → n ≡ m ++ b → n ++ rest ≡ w
next m b rest sum e = ap (λ t. t ++ rest) e ∙ append_assoc m b rest ∙ sum

pub whole : (m : List ℕ) {w : List ℕ} → m ++ [] ≡ w → m ≡ w
whole m sum = sym (append-nil m) ∙ sum

pub last : {E : Type 0} (m b n : List ℕ) {w : List ℕ} (r : Result (Unit {0}) E) → m ++ (b ++ []) ≡ w → OnOk r (n ≡ m ++ b) → OnOk r (n ≡ w)
last m b n (Ok x) sum e = whole n (next m b [] sum e)
last m b n (Err x) sum e = tt
