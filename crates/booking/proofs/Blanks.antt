-- The first blank by its place.
use Rattle.std.proofs.Common.{◌≡◌, ℕ, ◌<◌, ◌≤◌, cond, ltb, List, [], ◌∷◌, length, get_or, set, ℤ, pos, Some, None, Option, refl, arith}
use Rattle.std.proofs.lemmas.Bool.Decides.{nat_tests}
use Rattle.booking.specs.declared.entry.Entry.{Entry}
use Rattle.booking.specs.declared.entry.EntryKind.TheVariants.{PlainAmount}
use Rattle.std.specs.List.{position_or_len}
use Rattle.booking.specs.Weighing.{is_unfilled, filled_with, fill}

-- what is read past the end
abbrev pub no_entry : Entry
no_entry = record { line = 0; kind = PlainAmount 0 (pos 0) 0 }

abbrev pub filled_entry : ℤ → ℕ → Entry → Entry
filled_entry z c e = record { line = e.line; kind = filled_with z c e.kind }

-- the place of the first blank; past the end where there is none
abbrev pub blank_place : List Entry → ℕ
blank_place es = position_or_len (λ e. is_unfilled e.kind) es

pub fill_at : (z : ℤ) (c : ℕ) (es : List Entry) (d : Entry) → blank_place es < length es → fill z c es ≡ set es (blank_place es) (filled_entry z c (get_or es (blank_place es) d))
fill_at z c [] d h = absurd (omega arith)
fill_at z c (e ∷ es) d h =
    let ih = fill_at z c es d in
    grind (arith, nat_tests)

pub fill_none : (z : ℤ) (c : ℕ) (es : List Entry) → length es ≤ blank_place es → fill z c es ≡ es
fill_none z c [] h = refl
fill_none z c (e ∷ es) h =
    let ih = fill_none z c es in
    grind (arith, nat_tests)

-- what `position` answers of it
pub place_found : (es : List Entry) (r : Option ℕ) (n : ℕ) → r ≡ cond (ltb (blank_place es) (length es)) (Some (blank_place es)) None → r ≡ Some n → (n ≡ blank_place es) × (blank_place es < length es)
place_found es r n e is = (grind (arith, nat_tests), grind (arith, nat_tests))

pub place_missing : (es : List Entry) (r : Option ℕ) → r ≡ cond (ltb (blank_place es) (length es)) (Some (blank_place es)) None → r ≡ None → length es ≤ blank_place es
place_missing es r e is = grind (arith, nat_tests)
