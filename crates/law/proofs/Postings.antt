-- What an accepted posting names is there, and a purchase has some units.
use Rattle.std.proofs.Common.{◌≡◌, ℕ, zero, suc, ◌≤◌, true, false, ◌&&◌, leb, List, [], ◌∷◌, length, ℤ, pos, negsuc, nat_abs, Some, None, Option, refl, arith}
use Rattle.std.specs.Option.{option_map}
use Rattle.std.specs.List.{AllByRecursion}
use Rattle.std.specs.Str.{bytes_eq}
use Rattle.std.proofs.ByRecursion.{All-append, All-weaker}
use Rattle.std.proofs.lemmas.Bool.{both_ways, leb-true, not-false}
use Rattle.refusal.specs.declared.Refusal.TheVariants.{BracesWithoutUse}
use Rattle.lots.specs.declared.rows.Cost.{Cost}
use Rattle.lots.specs.Rows.{most}
use Rattle.lots.specs.Orders.{Order}
use Rattle.matching.specs.declared.wanted.Draw.{Draw}
use Rattle.matching.specs.Drawing.{draws_of}
use Rattle.stock.specs.Tables.{Table}
use Rattle.booking.specs.declared.posting.Posting.{Posting}
use Rattle.booking.specs.declared.posting.PostingKind.{PostingKind}
use Rattle.booking.specs.declared.posting.PostingKind.TheVariants.{Blank, Plain, Purchase, Reduction}
use Rattle.booking.specs.Postings.{wanted_lots, table_after_posting, draw_entries, entries_of_kind, entries_of_posting}
use Rattle.booking.specs.Booking.{entries_of}
use Rattle.booking.specs.declared.draft.Draft.{Draft}
use Rattle.books.specs.States.{Names, State}
use Rattle.books.specs.Calls.{CostGiven, BracesGiven, AmountGiven}
use Rattle.books.specs.Lookups.{commodity_number, open_account, number_or_0}
use Rattle.books.specs.Conditions.{bad_number, not_declared, not_open, braces_without_use}
use Rattle.books.specs.Refusals.{if_given, cost_fields, braces_fields, cost_not_declared, posting_tests}
use Rattle.books.specs.Changes.{cost_of, kind_with_braces, kind_of_amount, posting_of}
use Rattle.law.proofs.Plains.{AccountThere, PlaceThere, EntryThere}
use Rattle.law.proofs.Serials.{SomeUnits, AllSome}
use Rattle.books.proofs.Tests.{Unmet, all_front, all_right, number_there}

-- there are at most 16 commodities and 64 accounts
pub record Few (k : Names) : Type 0 where
  pub commodities : length k.commodities ≤ 16
  pub accounts : length k.accounts ≤ 64

-- a purchase within the ranges of a lot
pub record Buys (units : ℕ) (cost : Cost) : Type 0 where
  pub some : 1 ≤ units
  pub few : units ≤ most
  pub cheap : cost.number ≤ most

abbrev pub KindOfPostingThere : ℕ → PostingKind → Type 0
KindOfPostingThere a Blank = AccountThere a
KindOfPostingThere a (Plain amount commodity) = PlaceThere a commodity
KindOfPostingThere a (Purchase units commodity cost date) = Buys units cost
KindOfPostingThere a (Reduction units commodity cost date) = Unit {0}

abbrev pub PostingThere : Posting → Type 0
PostingThere p = KindOfPostingThere p.account p.kind

abbrev pub DraftThere : Option Draft → Type 0
DraftThere None = Unit {0}
DraftThere (Some d) = AllByRecursion PostingThere d.postings

-- Entries of such postings.

kind_entries_there : (o : Order) (day line a : ℕ) (t : Table) (kind : PostingKind) → KindOfPostingThere a kind → AllByRecursion EntryThere (entries_of_kind o day line a t kind)
kind_entries_there o day line a t Blank there = (there, tt)
kind_entries_there o day line a t (Plain amount commodity) there = (there, tt)
kind_entries_there o day line a t (Purchase units commodity cost date) there = (tt, tt)
kind_entries_there o day line a t (Reduction u commodity cost date) there = draws_there (draws_of o (wanted_lots a commodity cost date) u t.lots)
  where
    draws_there : (ds : List Draw) → AllByRecursion EntryThere (draw_entries line ds)
    draws_there [] = tt
    draws_there (d ∷ ds) = (tt, draws_there ds)

pub entries_there : (o : Order) (day : ℕ) (ps : List Posting) (t : Table) → AllByRecursion PostingThere ps → AllByRecursion EntryThere (entries_of o day t ps)
entries_there o day [] t all = tt
entries_there o day (p ∷ ps) t all =
    let after = table_after_posting o day t p in
    All-append EntryThere (entries_of_posting o day t p) (entries_of o day after ps) (kind_entries_there o day p.line p.account t p.kind all.0) (entries_there o day ps after all.1)

kind_some : (a : ℕ) (kind : PostingKind) → KindOfPostingThere a kind → SomeUnits kind
kind_some a Blank there = tt
kind_some a (Plain amount commodity) there = tt
kind_some a (Purchase units commodity cost date) there = there.some
kind_some a (Reduction units commodity cost date) there = tt

pub all_some : (ps : List Posting) → AllByRecursion PostingThere ps → AllSome ps
all_some ps all = All-weaker PostingThere (λ p. SomeUnits p.kind) (λ p. kind_some p.account p.kind) ps all

-- Postings of accepted calls.

module _ (k : Names) (few : Few k) (account : List ℕ) where
  abbrev a : ℕ
  a = number_or_0 (open_account k account)

  account_there : not_open k account ≡ false → AccountThere a
  account_there e =
      let h = number_there (λ x. x.is_open && bytes_eq x.name account) 1 k.accounts e in
      let low = h.0 in
      let high = h.1 in
      let most = few.accounts in
      record { a_low = low; a_high = omega arith }

  place_there : not_open k account ≡ false → (commodity : List ℕ) → not_declared k commodity ≡ false → PlaceThere a (number_or_0 (commodity_number k commodity))
  place_there e commodity f =
      let at = account_there e in
      let h = number_there (λ other. bytes_eq other commodity) 1 k.commodities f in
      let low = h.0 in
      let high = h.1 in
      let most = few.commodities in
      record { a_low = at.a_low; a_high = at.a_high; c_low = low; c_high = omega arith }

  with_braces_there : (number : ℤ) (c : ℕ) (cost : Option CostGiven) (date : Option ℕ) → bad_number number ≡ false → Unmet (if_given cost_fields cost) → braces_without_use number (record { cost = cost; date = date }) ≡ false → PlaceThere a c
      → KindOfPostingThere a (kind_with_braces number c (option_map (cost_of k) cost) date)
  with_braces_there (pos zero) c cost date ranged fields useful place = absurd (both_ways true useful refl)
  with_braces_there (pos (suc n)) c None date ranged fields useful place = place
  with_braces_there (pos (suc n)) c (Some cost) date ranged fields useful place =
      record { some = omega arith; few = leb-true (suc n) most (not-false (leb (suc n) most) ranged); cheap = leb-true (nat_abs cost.number) most (not-false (leb (nat_abs cost.number) most) fields.0) }
  with_braces_there (negsuc n) c cost date ranged fields useful place = tt

  amount_there : (number : ℤ) (c : ℕ) (braces : Option BracesGiven) → bad_number number ≡ false → Unmet (if_given braces_fields braces) → Unmet (if_given (λ b. (BracesWithoutUse, braces_without_use number b) ∷ []) braces) → PlaceThere a c
      → KindOfPostingThere a (kind_of_amount k number c braces)
  amount_there number c None ranged fields unmet place = place
  amount_there number c (Some b) ranged fields unmet place = with_braces_there number c b.cost b.date ranged (all_front (λ t. t.1 ≡ false) (if_given cost_fields b.cost) _ fields) unmet.0 place

pub joins_there : (s : State) → Few s.names → (slip source : ℕ) (account : List ℕ) (amount : Option AmountGiven) → Unmet (posting_tests s slip account amount) → PostingThere (posting_of s.names source account amount)
joins_there s few slip source account None unmet = account_there s.names few account unmet.1.1.0
joins_there s few slip source account (Some x) unmet =
    let fields = all_front (λ t. t.1 ≡ false) (if_given braces_fields x.braces) _ unmet.1.1.1.1 in
    let behind_fields = all_right (λ t. t.1 ≡ false) (if_given braces_fields x.braces) _ unmet.1.1.1.1 in
    let behind_costs = all_right (λ t. t.1 ≡ false) (if_given (cost_not_declared s) x.braces) _ behind_fields.1 in
    amount_there s.names few account x.number (number_or_0 (commodity_number s.names x.commodity)) x.braces unmet.1.1.0 fields behind_costs.1.1.1
    (place_there s.names few account behind_costs.0 x.commodity behind_fields.0)
