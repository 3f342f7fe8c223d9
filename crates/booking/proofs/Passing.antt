-- A test that each element of a list passes.
use Rattle.std.proofs.Common.{◌≡◌, ℕ, zero, suc, Bool, true, List, [], ◌∷◌, ◌++◌, set, refl, arith}
use Rattle.std.specs.List.{list_all}
use Rattle.std.proofs.lemmas.List.Folds.{list_all-append, list_all-map}
use Rattle.matching.specs.declared.wanted.Draw.{Draw}
use Rattle.stock.specs.Promises.{draw_in_range}
use Rattle.booking.specs.declared.entry.Entry.{Entry}
use Rattle.booking.specs.declared.entry.EntryKind.{EntryKind}
use Rattle.booking.specs.declared.entry.EntryKind.TheVariants.{Drew}
use Rattle.booking.specs.Postings.{entry, draw_entries}
use Rattle.booking.specs.Ranges.{entry_in_range, entry_kind_in_range}

module _ {X : Type 0} (p : X → Bool) where
  pub pass_set : (xs : List X) (i : ℕ) (x : X) → list_all p xs ≡ true → p x ≡ true → list_all p (set xs i x) ≡ true
  pass_set [] i x all here = refl
  pass_set (y ∷ ys) zero x all here = grind arith
  pass_set (y ∷ ys) (suc i) x all here = let ih = pass_set ys i x in grind arith

-- entries, and one more behind them, or those of draws
pub pass_entered : (line : ℕ) (es : List Entry) (kind : EntryKind) → list_all entry_in_range es ≡ true → entry_kind_in_range kind ≡ true → list_all entry_in_range (es ++ (entry line kind ∷ [])) ≡ true
pass_entered line es kind all here =
    let both = list_all-append entry_in_range es (entry line kind ∷ []) in
    cc

pub pass_drawn : (line : ℕ) (es : List Entry) (ds : List Draw) → list_all entry_in_range es ≡ true → list_all draw_in_range ds ≡ true → list_all entry_in_range (es ++ draw_entries line ds) ≡ true
pass_drawn line es ds all drawn =
    let both = list_all-append entry_in_range es (draw_entries line ds) in
    let each = list_all-map entry_in_range (λ (d : Draw). entry line (Drew d)) ds in
    cc
