-- Lots by their places: the open lot of a key, and what a purchase or a draw does at a place.
use Rattle.std.specs.Prelude.{◌≡◌, ℕ, ◌+◌, ◌<◌, Bool, true, cond, ◌||◌, ◌⊎◌, List, [], ◌∷◌, ◌++◌, length, get_or, Some, None, Ok, Err, Option, Result, nat_le, slice_index_or, slice_set}
use Rattle.refusal.specs.declared.Refusal.{Refusal}
use Rattle.refusal.specs.declared.Refusal.TheVariants.{TooManyLots}
use Rattle.lots.specs.declared.rows.Key.{Key}
use Rattle.lots.specs.declared.rows.LotRow.{LotRow}
use Rattle.lots.specs.Rows.{no_lot, with_fewer}
use Rattle.std.specs.List.{remove}
use Rattle.matching.specs.declared.wanted.Draw.{Draw}
use Rattle.matching.specs.Places.{NoneMatch, EarliestAt}
use Rattle.stock.specs.Tables.{Table, most_lots, last_serial, of_key}

-- a lot of the key stands at this place, or none is open
abbrev pub OpenAt : Key → List LotRow → Option ℕ → Type 0
OpenAt k lots None = NoneMatch (of_key k) lots (length lots)
OpenAt k lots (Some i) = (i < length lots) × (of_key k (slice_index_or lots i no_lot) ≡ true)

-- a new lot, while there is room and a serial for it
abbrev pub opened : Key → ℕ → Table → Result ℕ Refusal × Table
opened k n t =
    cond (nat_le last_serial t.next || nat_le most_lots (length t.lots)) (Err TooManyLots, t)
    (Ok t.next, record { lots = t.lots ++ (record { key = k; units = n; serial = t.next } ∷ []); next = t.next + 1 })

-- of n asked units the lot at place i gives what it has; emptied it is gone
abbrev pub taken_at : ℕ → ℕ → Table → Draw × Table
taken_at i n t =
    cond (nat_le (get_or t.lots i no_lot).units n)
    (record { lot = slice_index_or t.lots i no_lot; units = (get_or t.lots i no_lot).units }, record { lots = remove t.lots i; next = t.next })
    (record { lot = slice_index_or t.lots i no_lot; units = n }, record { lots = slice_set t.lots i (with_fewer (slice_index_or t.lots i no_lot) n); next = t.next })

-- the first of the lots that M tells gives what it has of n asked units; none gives where nothing is asked or none is told
abbrev pub TakesFirst : (LotRow → Bool) → (LotRow → LotRow → Bool) → ℕ → Table → Option Draw × Table → Type 0
TakesFirst M lt n t (None, after) = ((n ≡ 0) ⊎ NoneMatch M t.lots (length t.lots)) × (after ≡ t)
TakesFirst M lt n t (Some d, after) = (0 < n) × ((i : ℕ) × EarliestAt M lt t.lots (length t.lots) i × ((d, after) ≡ taken_at i n t))
