-- Lots bear the serials of their openings, stand in their order, have different keys, and none is empty.
use Rattle.std.proofs.lemmas.Grind.{common_steps}
use Rattle.std.proofs.Common.{◌≡◌, ℕ, ◌+◌, ◌<◌, ◌≤◌, Bool, true, false, cond, ◌||◌, leb, List, [], ◌∷◌, ◌++◌, length, sym, refl, ◌∙◌, subst, arith, length-append}
use Rattle.std.specs.List.{AllByRecursion}
use Rattle.std.proofs.lemmas.List.{append-nil, append_assoc}
use Rattle.std.proofs.ByRecursion.{All-weaker, All-push, All-append, All-map}
use Rattle.std.proofs.lemmas.Bool.{false≢true, true≢false, cond_both, or_parts, leb-false, both_ways}
use Rattle.lots.specs.declared.rows.Key.{Key}
use Rattle.lots.specs.declared.rows.LotRow.{LotRow}
use Rattle.lots.specs.Rows.{same_key, with_more, with_fewer}
use Rattle.lots.specs.Orders.{Order}
use Rattle.matching.specs.Matching.{matches}
use Rattle.matching.specs.Drawing.{gives, lots_left, draws_of}
use Rattle.matching.specs.Drawn.{AllPairs, SerialsRise}
use Rattle.matching.proofs.Sums.{by_bool}
use Rattle.matching.proofs.Drawing.{all_draws}
use Rattle.matching.proofs.Splits.{pairs_push}
use Rattle.stock.specs.Tables.{Table, of_key, is_open, add_units, serial_for}
use Rattle.stock.specs.Kept.{KeysDiffer}
use Rattle.stock.proofs.Keeping.{key_same, key_itself}
use Rattle.booking.specs.declared.posting.Posting.{Posting}
use Rattle.booking.specs.declared.posting.PostingKind.{PostingKind}
use Rattle.booking.specs.declared.posting.PostingKind.TheVariants.{Purchase, Reduction}
use Rattle.booking.specs.declared.entry.Entry.{Entry}
use Rattle.booking.specs.declared.entry.EntryKind.{EntryKind}
use Rattle.booking.specs.declared.entry.EntryKind.TheVariants.{Bought, Drew}
use Rattle.booking.specs.Postings.{purchase_key, wanted_lots, table_after_kind, table_after_posting, entry, entries_of_kind, entries_of_posting}
use Rattle.booking.specs.Booking.{table_after, entries_of}
use Rattle.law.specs.Histories.{opened_by_kind, opened_by}
use Rattle.law.specs.Amounts.{SerialOfOpening, KindBearsSerial}

abbrev pub LotOfOpening : List Key → LotRow → Type 0
LotOfOpening opened r = SerialOfOpening opened r.serial r.key

pub record Sound (opened : List Key) (t : Table) : Type 0 where
  pub counted : t.next ≡ length opened + 1
  pub serials : AllByRecursion (LotOfOpening opened) t.lots
  pub rising : SerialsRise t.lots
  pub differ : KeysDiffer t.lots
  pub some : AllByRecursion (λ r. 1 ≤ r.units) t.lots

-- What holds of each lot, and of each pair, after units came to one.

all_grown : (P : LotRow → Type 0) (k : Key) (n next : ℕ) → ((r : LotRow) → P r → P (with_more r n)) → (lots : List LotRow) → is_open k lots ≡ true → AllByRecursion P lots → AllByRecursion P (add_units k n next lots)
all_grown P k n next grows [] e all = absurd (false≢true e)
all_grown P k n next grows (r ∷ rs) e all =
    by_bool (of_key k r) (λ (b : Bool). (b || is_open k rs) ≡ true → AllByRecursion P (cond b (with_more r n ∷ rs) (r ∷ add_units k n next rs)))
    (λ _ _. (grows r all.0, all.1))
    (λ _ f. (all.0, all_grown P k n next grows rs f all.1))
    e

-- a relation of lots that does not look at units
pairs_grown : (R : LotRow → LotRow → Type 0) (k : Key) (n next : ℕ) → ((r s : LotRow) → R r s → R (with_more r n) s) → ((r s : LotRow) → R r s → R r (with_more s n))
    → (lots : List LotRow) → is_open k lots ≡ true → AllPairs R lots → AllPairs R (add_units k n next lots)
pairs_grown R k n next first second [] e all = absurd (false≢true e)
pairs_grown R k n next first second (r ∷ rs) e all =
    by_bool (of_key k r) (λ (b : Bool). (b || is_open k rs) ≡ true → AllPairs R (cond b (with_more r n ∷ rs) (r ∷ add_units k n next rs)))
    (λ _ _. (All-weaker (R r) (R (with_more r n)) (first r) rs all.0, all.1))
    (λ _ f. (all_grown (R r) k n next (second r) rs f all.0, pairs_grown R k n next first second rs f all.1))
    e

-- What is left of the lots.

pub all_left : (P : LotRow → Type 0) (g : LotRow → ℕ) → ((r : LotRow) → P r → g r < r.units → P (with_fewer r (g r))) → (lots : List LotRow) → AllByRecursion P lots → AllByRecursion P (lots_left g lots)
all_left P g part [] all = tt
all_left P g part (r ∷ rs) all =
    let ih = all_left P g part rs all.1 in
    cond_both (leb r.units (g r)) (lots_left g rs) (with_fewer r (g r) ∷ lots_left g rs) (λ xs. AllByRecursion P xs) (λ _. ih) (λ e. (part r all.0 (leb-false r.units (g r) e), ih))

pairs_left : (R : LotRow → LotRow → Type 0) (g : LotRow → ℕ) → ((r s : LotRow) → R r s → R (with_fewer r (g r)) s) → ((r s : LotRow) → R r s → R r (with_fewer s (g s)))
    → (lots : List LotRow) → AllPairs R lots → AllPairs R (lots_left g lots)
pairs_left R g first second [] all = tt
pairs_left R g first second (r ∷ rs) all =
    let ih = pairs_left R g first second rs all.1 in
    cond_both (leb r.units (g r)) (lots_left g rs) (with_fewer r (g r) ∷ lots_left g rs) (λ xs. AllPairs R xs) (λ _. ih)
    (λ _. (all_left (R (with_fewer r (g r))) g (λ s p _. second (with_fewer r (g r)) s p) rs (All-weaker (R r) (R (with_fewer r (g r))) (first r) rs all.0), ih))

-- A new lot.

pub added_new : (k : Key) (n next : ℕ) (lots : List LotRow) → is_open k lots ≡ false → lots ++ (record { key = k; units = n; serial = next } ∷ []) ≡ add_units k n next lots
added_new k n next [] e = refl
added_new k n next (r ∷ rs) e =
    let p = or_parts (of_key k r) (is_open k rs) e in
    let ih = added_new k n next rs p.1 in
    grind arith

other_keys : (k : Key) (lots : List LotRow) → is_open k lots ≡ false → AllByRecursion (λ r. r.key ≡ k → ⊥) lots
other_keys k [] e = tt
other_keys k (r ∷ rs) e =
    let p = or_parts (of_key k r) (is_open k rs) e in
    ((λ q. both_ways (same_key r.key k) p.0 (subst (λ (j : Key). same_key j k ≡ true) (sym q) (key_itself k))), other_keys k rs p.1)

-- more openings keep the serials that were given
pub opened_more : (opened more : List Key) (serial : ℕ) (key : Key) → SerialOfOpening opened serial key → SerialOfOpening (opened ++ more) serial key
opened_more opened more serial key m = grind (arith, common_steps)

-- the serial that is given next
next_opening : (opened : List Key) (k : Key) (serial : ℕ) → serial ≡ length opened + 1 → SerialOfOpening (opened ++ (k ∷ [])) serial k
next_opening opened k serial e = grind (arith, common_steps)

-- Purchases.

module _ (k : Key) (n : ℕ) (t : Table) (opened : List Key) (sound : Sound opened t) where
  bought_open : 1 ≤ n → is_open k t.lots ≡ true → Sound (opened ++ []) (record { lots = add_units k n t.next t.lots; next = t.next })
  bought_open some e = subst (λ (xs : List Key). Sound xs (record { lots = add_units k n t.next t.lots; next = t.next })) (sym (append-nil opened)) (record {
    counted = sound.counted;
    serials = all_grown (LotOfOpening opened) k n t.next (λ r m. record { from_one = m.from_one; given = m.given; own_key = m.own_key }) t.lots e sound.serials;
    rising = pairs_grown (λ r s. r.serial < s.serial) k n t.next (λ r s l. l) (λ r s l. l) t.lots e sound.rising;
    differ = pairs_grown (λ r s. r.key ≡ s.key → ⊥) k n t.next (λ r s ne. ne) (λ r s ne. ne) t.lots e sound.differ;
    some = all_grown (λ r. 1 ≤ r.units) k n t.next (λ r m. omega arith) t.lots e sound.some;
  })

  bought_new : 1 ≤ n → is_open k t.lots ≡ false → Sound (opened ++ (k ∷ [])) (record { lots = add_units k n t.next t.lots; next = t.next + 1 })
  bought_new some e =
      let x : LotRow = record { key = k; units = n; serial = t.next } in
      let c = sound.counted in
      let built : Sound (opened ++ (k ∷ [])) (record { lots = t.lots ++ (x ∷ []); next = t.next + 1 }) = record {
        counted = simp length-append (omega arith);
        serials = All-push (LotOfOpening (opened ++ (k ∷ []))) t.lots x (All-weaker (LotOfOpening opened) (LotOfOpening (opened ++ (k ∷ []))) (λ r. opened_more opened (k ∷ []) r.serial r.key) t.lots sound.serials) (next_opening opened k t.next c);
        rising = pairs_push (λ r s. r.serial < s.serial) t.lots x (All-weaker (LotOfOpening opened) (λ r. r.serial < t.next) (λ r m. let h = m.given in omega arith) t.lots sound.serials) sound.rising;
        differ = pairs_push (λ r s. r.key ≡ s.key → ⊥) t.lots x (other_keys k t.lots e) sound.differ;
        some = All-push (λ r. 1 ≤ r.units) t.lots x sound.some some;
      } in
      subst (λ (xs : List LotRow). Sound (opened ++ (k ∷ [])) (record { lots = xs; next = t.next + 1 })) (added_new k n t.next t.lots e) built

  bought_sound : 1 ≤ n → (b : Bool) → is_open k t.lots ≡ b → Sound (opened ++ cond b [] (k ∷ [])) (record { lots = add_units k n t.next t.lots; next = cond b t.next (t.next + 1) })
  bought_sound some true e = bought_open some e
  bought_sound some false e = bought_new some e

-- the lot that a purchase comes to bears a serial of its key
serial_there : (k : Key) (next : ℕ) (opened : List Key) (lots : List LotRow) → is_open k lots ≡ true → AllByRecursion (LotOfOpening opened) lots → SerialOfOpening opened (serial_for k next lots) k
serial_there k next opened [] e all = absurd (false≢true e)
serial_there k next opened (r ∷ rs) e all =
    by_bool (of_key k r) (λ (b : Bool). of_key k r ≡ b → (b || is_open k rs) ≡ true → SerialOfOpening opened (cond b r.serial (serial_for k next rs)) k)
    (λ _ own _. subst (λ (j : Key). SerialOfOpening opened r.serial j) (key_same r.key k own) all.0)
    (λ _ _ f. serial_there k next opened rs f all.1)
    refl e

serial_new : (k : Key) (next : ℕ) (lots : List LotRow) → is_open k lots ≡ false → serial_for k next lots ≡ next
serial_new k next [] e = refl
serial_new k next (r ∷ rs) e =
    by_bool (of_key k r) (λ (b : Bool). (b || is_open k rs) ≡ false → cond b r.serial (serial_for k next rs) ≡ next) (λ _ f. absurd (true≢false f)) (λ _ f. serial_new k next rs f) e

serial_bought : (k : Key) (t : Table) (opened : List Key) → Sound opened t → (b : Bool) → is_open k t.lots ≡ b → SerialOfOpening (opened ++ cond b [] (k ∷ [])) (serial_for k t.next t.lots) k
serial_bought k t opened sound true e = opened_more opened [] (serial_for k t.next t.lots) k (serial_there k t.next opened t.lots e sound.serials)
serial_bought k t opened sound false e = next_opening opened k (serial_for k t.next t.lots) (serial_new k t.next t.lots e ∙ sound.counted)

-- Postings.

-- a purchase has some units
abbrev pub SomeUnits : PostingKind → Type 0
SomeUnits (Purchase units commodity cost date) = 1 ≤ units
SomeUnits _ = Unit {0}

same_openings : (opened : List Key) (t : Table) → Sound opened t → Sound (opened ++ []) t
same_openings opened t s = subst (λ (xs : List Key). Sound xs t) (sym (append-nil opened)) s

pub kind_sound : (o : Order) (day a : ℕ) (t : Table) (kind : PostingKind) (opened : List Key) → SomeUnits kind → Sound opened t → Sound (opened ++ opened_by_kind day a t kind) (table_after_kind o day a t kind)
kind_sound o day a t (Purchase n commodity cost date) opened some s =
    let k = purchase_key day a commodity cost date in
    bought_sound k n t opened s some (is_open k t.lots) refl
kind_sound o day a t (Reduction u commodity cost date) opened some s =
    let g = gives (matches (wanted_lots a commodity cost date)) (o.before u) u t.lots in
    same_openings opened (record { lots = lots_left g t.lots; next = t.next }) (record {
      counted = s.counted;
      serials = all_left (LotOfOpening opened) g (λ r m _. record { from_one = m.from_one; given = m.given; own_key = m.own_key }) t.lots s.serials;
      rising = pairs_left (λ r s. r.serial < s.serial) g (λ r s l. l) (λ r s l. l) t.lots s.rising;
      differ = pairs_left (λ r s. r.key ≡ s.key → ⊥) g (λ r s ne. ne) (λ r s ne. ne) t.lots s.differ;
      some = all_left (λ r. 1 ≤ r.units) g (λ r m l. omega arith) t.lots s.some;
    })
kind_sound o day a t _ opened some s = same_openings opened t s

abbrev Bears : List Key → Entry → Type 0
Bears opened e = KindBearsSerial opened e.kind

kind_bears : (o : Order) (day line a : ℕ) (t : Table) (kind : PostingKind) (opened : List Key) → Sound opened t → AllByRecursion (Bears (opened ++ opened_by_kind day a t kind)) (entries_of_kind o day line a t kind)
kind_bears o day line a t (Purchase n commodity cost date) opened s =
    let k = purchase_key day a commodity cost date in
    (serial_bought k t opened s (is_open k t.lots) refl, tt)
kind_bears o day line a t (Reduction u commodity cost date) opened s =
    let w = wanted_lots a commodity cost date in
    let g = gives (matches w) (o.before u) u t.lots in
    All-map (Bears (opened ++ [])) (λ d. entry line (Drew d)) (draws_of o w u t.lots)
    (all_draws (λ d. SerialOfOpening (opened ++ []) d.lot.serial d.lot.key) (o.before u) g t.lots
    (All-weaker (LotOfOpening opened) (λ r. (g r ≡ 0 → ⊥) → SerialOfOpening (opened ++ []) r.serial r.key) (λ r m _. opened_more opened [] r.serial r.key m) t.lots s.serials))
kind_bears o day line a t _ opened s = (tt, tt)

pub bears_more : (opened more : List Key) (es : List Entry) → AllByRecursion (Bears opened) es → AllByRecursion (Bears (opened ++ more)) es
bears_more opened more es all = All-weaker (Bears opened) (Bears (opened ++ more)) (λ e. kinds e.kind) es all
  where
    kinds : (kind : EntryKind) → KindBearsSerial opened kind → KindBearsSerial (opened ++ more) kind
    kinds (Bought key units serial) m = opened_more opened more serial key m
    kinds (Drew draw) m = opened_more opened more draw.lot.serial draw.lot.key m
    kinds _ m = tt

abbrev pub AllSome : List Posting → Type 0
AllSome ps = AllByRecursion (λ p. SomeUnits p.kind) ps

module _ (o : Order) (day : ℕ) where
  pub postings_sound : (ps : List Posting) (t : Table) (opened : List Key) → AllSome ps → Sound opened t → Sound (opened ++ opened_by o day t ps) (table_after o day t ps)
  postings_sound [] t opened some s = same_openings opened t s
  postings_sound (p ∷ ps) t opened some s =
      let here = opened_by_kind day p.account t p.kind in
      let after = table_after_posting o day t p in
      subst (λ (xs : List Key). Sound xs (table_after o day after ps)) (append_assoc opened here (opened_by o day after ps))
      (postings_sound ps after (opened ++ here) some.1 (kind_sound o day p.account t p.kind opened some.0 s))

  pub postings_bear : (ps : List Posting) (t : Table) (opened : List Key) → AllSome ps → Sound opened t → AllByRecursion (Bears (opened ++ opened_by o day t ps)) (entries_of o day t ps)
  postings_bear [] t opened some s = tt
  postings_bear (p ∷ ps) t opened some s =
      let here = opened_by_kind day p.account t p.kind in
      let after = table_after_posting o day t p in
      let rest = opened_by o day after ps in
      subst (λ (xs : List Key). AllByRecursion (Bears xs) (entries_of_posting o day t p ++ entries_of o day after ps)) (append_assoc opened here rest)
      (All-append (Bears ((opened ++ here) ++ rest)) (entries_of_posting o day t p) (entries_of o day after ps)
      (bears_more (opened ++ here) rest (entries_of_posting o day t p) (kind_bears o day p.line p.account t p.kind opened s))
      (postings_bear ps after (opened ++ here) some.1 (kind_sound o day p.account t p.kind opened some.0 s)))
