-- What an optional value came from.
use Rattle.std.proofs.Common.{◌≡◌, Bool, true, false, cond, Some, None, Ok, Err, Option, refl, arith}
use Rattle.std.specs.Option.{option_map, ok_or}
use Rattle.fields.specs.Results.{map_ok, bind}

pub none_some : {A B : Type 0} {x : A} → None ≡ Some x → B
none_some e = absurd (grind arith)

pub from_bind : {A B : Type 0} (o : Option A) (f : A → Option B) (v : B) → bind o f ≡ Some v → (a : A) × (o ≡ Some a) × (f a ≡ Some v)
from_bind None f v e = none_some e
from_bind (Some a) f v e = (a, refl, e)

pub from_mapped : {A B : Type 0} (o : Option A) (f : A → B) (v : B) → option_map f o ≡ Some v → (a : A) × (o ≡ Some a) × (f a ≡ v)
from_mapped None f v e = none_some e
from_mapped (Some a) f v e = (a, refl, cc)

pub from_cond : {A : Type 0} (b : Bool) (o : Option A) (v : A) → cond b o None ≡ Some v → (b ≡ true) × (o ≡ Some v)
from_cond true o v e = (refl, e)
from_cond false o v e = none_some e

pub mapped_none : {A B : Type 0} (o : Option A) (f : A → B) → option_map f o ≡ None → o ≡ None
mapped_none None f e = refl
mapped_none (Some a) f e = absurd (grind arith)

pub ok_or_mapped : {A B E : Type 0} (f : A → B) (o : Option A) (e : E) → map_ok f (ok_or o e) ≡ ok_or (option_map f o) e
ok_or_mapped f None e = refl
ok_or_mapped f (Some a) e = refl

pub from_ok : {A E : Type 0} (o : Option A) (e : E) (x : A) → Ok x ≡ ok_or o e → o ≡ Some x
from_ok None e x h = absurd (grind arith)
from_ok (Some y) e x h = grind arith

pub from_err : {A E : Type 0} (o : Option A) (e d : E) → Err d ≡ ok_or o e → o ≡ None
from_err None e d h = refl
from_err (Some y) e d h = absurd (grind arith)
