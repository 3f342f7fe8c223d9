-- What postings bring to lots and draw from them.
use Rattle.std.proofs.Common.{add-mul, ◌≡◌, ℕ, ◌+◌, ◌*◌, cond, eqb, List, [], ◌∷◌, ℤ, pos, ◌+ℤ◌, neg_ℤ, refl, ap, arith}
use Rattle.std.proofs.lemmas.Int.{ints}
use Rattle.lots.specs.declared.rows.Key.{Key}
use Rattle.lots.specs.declared.rows.LotRow.{LotRow}
use Rattle.lots.specs.Rows.{same_key}
use Rattle.lots.specs.Orders.{Order}
use Rattle.matching.specs.declared.wanted.Draw.{Draw}
use Rattle.matching.specs.Sums.{sum_of, sum_of_ints}
use Rattle.matching.specs.Matching.{matches, units_if}
use Rattle.matching.specs.Drawing.{gives, draws_of}
use Rattle.matching.proofs.Sums.{sum_of_append, sum_of_draws, gives_most}
use Rattle.weights.specs.Weights.{purchase_weight, draw_weight, weight_in}
use Rattle.stock.specs.Tables.{Table, of_key, units_of_key}
use Rattle.stock.proofs.Keeping.{key_same}
use Rattle.booking.specs.declared.posting.Posting.{Posting}
use Rattle.booking.specs.declared.posting.PostingKind.{PostingKind}
use Rattle.booking.specs.declared.posting.PostingKind.TheVariants.{Purchase, Reduction}
use Rattle.booking.specs.declared.entry.Entry.{Entry}
use Rattle.booking.specs.declared.entry.EntryKind.{EntryKind}
use Rattle.booking.specs.declared.entry.EntryKind.TheVariants.{Bought, Drew}
use Rattle.booking.specs.Postings.{purchase_key, wanted_lots, table_after_kind, table_after_posting, draw_entries, entries_of_kind, entries_of_posting}
use Rattle.booking.specs.Booking.{table_after, entries_of}
use Rattle.law.specs.Amounts.{brought_by_kind, drawn_by_kind, units_brought, units_drawn, lot_at_cost}
use Rattle.law.proofs.Sums.{sum_of_ints_append, sum_of_added, sum_of_left, times_less}

-- what an entry weighs by its lots alone
abbrev pub lots_weight : ℕ → EntryKind → ℤ
lots_weight c (Bought key units serial) = weight_in c (purchase_weight key units)
lots_weight c (Drew draw) = weight_in c (draw_weight draw)
lots_weight c _ = pos 0

abbrev pub lots_weight_sum : ℕ → List Entry → ℤ
lots_weight_sum c es = sum_of_ints (λ e. lots_weight c e.kind) es

-- Units of a key.

brought_none : (k : Key) (line : ℕ) (ds : List Draw) → units_brought k (draw_entries line ds) ≡ 0
brought_none k line [] = refl
brought_none k line (d ∷ ds) = let ih = brought_none k line ds in omega arith

drawn_all : (k : Key) (line : ℕ) (ds : List Draw) → units_drawn k (draw_entries line ds) ≡ sum_of (λ d. cond (same_key d.lot.key k) d.units 0) ds
drawn_all k line [] = refl
drawn_all k line (d ∷ ds) = let ih = drawn_all k line ds in omega arith

pub kind_units : (o : Order) (day line a : ℕ) (t : Table) (kind : PostingKind) (k : Key)
    → units_of_key k (table_after_kind o day a t kind).lots + units_drawn k (entries_of_kind o day line a t kind) ≡ units_of_key k t.lots + units_brought k (entries_of_kind o day line a t kind)
kind_units o day line a t (Purchase n commodity cost date) k =
    let j = purchase_key day a commodity cost date in
    let added = sum_of_added (units_if (of_key k)) j n t.next (cond (same_key j k) n 0)
    (λ r e. let same = key_same r.key j e in rw same (grind arith)) refl t.lots in
    omega arith
kind_units o day line a t (Reduction u commodity cost date) k =
    let w = wanted_lots a commodity cost date in
    let g = gives (matches w) (o.before u) u t.lots in
    let h : LotRow → ℕ = λ r. cond (same_key r.key k) (g r) 0 in
    let rest = sum_of_left (units_if (of_key k)) h g
    (λ r. let m = gives_most (matches w) (o.before u) u t.lots r in grind arith)
    (λ r l. let m = gives_most (matches w) (o.before u) u t.lots r in grind arith) t.lots in
    let ds = draws_of o w u t.lots in
    let x = drawn_all k line ds in
    let y = sum_of_draws (λ d. cond (same_key d.lot.key k) d.units 0) (o.before u) g (λ r z. grind arith) t.lots in
    let z = brought_none k line ds in
    omega arith
kind_units o day line a t _ k = refl

pub postings_units : (o : Order) (day : ℕ) (ps : List Posting) (t : Table) (k : Key)
    → units_of_key k (table_after o day t ps).lots + units_drawn k (entries_of o day t ps) ≡ units_of_key k t.lots + units_brought k (entries_of o day t ps)
postings_units o day [] t k = refl
postings_units o day (p ∷ ps) t k =
    let here = kind_units o day p.line p.account t p.kind k in
    let far = postings_units o day ps (table_after_posting o day t p) k in
    let es = entries_of_posting o day t p in
    let fs = entries_of o day (table_after_posting o day t p) ps in
    let x = sum_of_append (λ e. drawn_by_kind k e.kind) es fs in
    let y = sum_of_append (λ e. brought_by_kind k e.kind) es fs in
    omega arith

-- Lots at cost.

weight_all : (c line : ℕ) (ds : List Draw) → lots_weight_sum c (draw_entries line ds) ≡ neg_ℤ (pos (sum_of (λ d. cond (eqb d.lot.key.cost.commodity c) (d.units * d.lot.key.cost.number) 0) ds))
weight_all c line [] = refl
weight_all c line (d ∷ ds) =
    let ih = weight_all c line ds in
    let n = d.units * d.lot.key.cost.number in
    grind (arith, ints)

pub kind_at_cost : (o : Order) (day line a : ℕ) (t : Table) (kind : PostingKind) (c : ℕ)
    → pos (sum_of (lot_at_cost c) (table_after_kind o day a t kind).lots) ≡ pos (sum_of (lot_at_cost c) t.lots) +ℤ lots_weight_sum c (entries_of_kind o day line a t kind)
kind_at_cost o day line a t (Purchase n commodity cost date) c =
    let j = purchase_key day a commodity cost date in
    let added = sum_of_added (lot_at_cost c) j n t.next (cond (eqb cost.commodity c) (n * cost.number) 0)
    (λ r e. let same = key_same r.key j e in let times = add-mul r.units n cost.number in rw same (grind arith)) refl t.lots in
    let w = n * cost.number in
    grind (arith, ints)
kind_at_cost o day line a t (Reduction u commodity cost date) c =
    let w = wanted_lots a commodity cost date in
    let g = gives (matches w) (o.before u) u t.lots in
    let h : LotRow → ℕ = λ r. cond (eqb r.key.cost.commodity c) (g r * r.key.cost.number) 0 in
    let rest = sum_of_left (lot_at_cost c) h g
    (λ r. let times = times_less r.units (g r) r.key.cost.number (gives_most (matches w) (o.before u) u t.lots r) in grind arith)
    (λ r l. let m = gives_most (matches w) (o.before u) u t.lots r in ap (λ (n : ℕ). cond (eqb r.key.cost.commodity c) (n * r.key.cost.number) 0) (omega arith)) t.lots in
    let ds = draws_of o w u t.lots in
    let x = weight_all c line ds in
    let y = sum_of_draws (λ d. cond (eqb d.lot.key.cost.commodity c) (d.units * d.lot.key.cost.number) 0) (o.before u) g
    (λ r z. rw z (grind arith)) t.lots in
    omega (arith, ints)
kind_at_cost o day line a t _ c = omega (arith, ints)

pub postings_at_cost : (o : Order) (day : ℕ) (ps : List Posting) (t : Table) (c : ℕ)
    → pos (sum_of (lot_at_cost c) (table_after o day t ps).lots) ≡ pos (sum_of (lot_at_cost c) t.lots) +ℤ lots_weight_sum c (entries_of o day t ps)
postings_at_cost o day [] t c = omega (arith, ints)
postings_at_cost o day (p ∷ ps) t c =
    let here = kind_at_cost o day p.line p.account t p.kind c in
    let far = postings_at_cost o day ps (table_after_posting o day t p) c in
    let x = sum_of_ints_append (λ e. lots_weight c e.kind) (entries_of_posting o day t p) (entries_of o day (table_after_posting o day t p) ps) in
    omega (arith, ints)
