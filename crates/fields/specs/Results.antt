-- Results, and the optional values that they come from. Assumes nothing.
use Rattle.std.specs.Prelude.{Some, None, Ok, Err, Option, Result}

abbrev pub map_ok : {A B E : Type 0} → (A → B) → Result A E → Result B E
map_ok f (Ok x) = Ok (f x)
map_ok f (Err e) = Err e

abbrev pub bind : {A B : Type 0} → Option A → (A → Option B) → Option B
bind None f = None
bind (Some x) f = f x

-- what `?` does: a value goes on by k, and a fault comes up by f
abbrev pub and_then : {A B E F : Type 0} → (E → F) → Result A E → (A → Result B F) → Result B F
and_then f (Ok x) k = k x
and_then f (Err e) k = Err (f e)
