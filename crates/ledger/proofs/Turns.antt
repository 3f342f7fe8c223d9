-- Tests in turn: those behind count where none before is met.
use Rattle.std.proofs.Common.{◌≡◌, Bool, true, false, List, [], ◌∷◌, ◌++◌, Ok, Err, refl}
use Rattle.refusal.specs.declared.Refusal.{Refusal}
use Rattle.refusal.specs.Refusing.{first_met, unless}

pub refused_before : {X Y : Type 0} (ts us : List (Refusal × Bool)) (r : Refusal) (x : X) (y : Y) → Err r ≡ unless (first_met ts) x → unless (first_met (ts ++ us)) y ≡ Err r
refused_before [] us r x y e = cc
refused_before ((r, true) ∷ ts) us q x y e = cc
refused_before ((r, false) ∷ ts) us q x y e = refused_before ts us q x y e

pub passed_before : {X : Type 0} (ts us : List (Refusal × Bool)) (x y : X) → Ok x ≡ unless (first_met ts) y → first_met (ts ++ us) ≡ first_met us
passed_before [] us x y e = refl
passed_before ((r, true) ∷ ts) us x y e = cc
passed_before ((r, false) ∷ ts) us x y e = passed_before ts us x y e
