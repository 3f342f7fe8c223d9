-- Plain balances are what entries bring.
use Rattle.std.proofs.Common.{rules, tests, ◌≡◌, ℕ, zero, suc, ◌≤◌, cond, eqb, leb, List, [], ◌∷◌, length, ℤ, pos, ◌+ℤ◌, ◌*ℤ◌, refl, ◌∙◌, arith, length-set}
use Rattle.std.specs.List.{AllByRecursion}
use Rattle.std.proofs.lemmas.Int.{ints}
use Rattle.std.proofs.lemmas.Bool.Decides.{nat_tests}
use Rattle.std.proofs.lemmas.Bool.{cond-true, le-leb}
use Rattle.matching.specs.Sums.{sum_of_ints}
use Rattle.booking.specs.declared.entry.Entry.{Entry}
use Rattle.booking.specs.declared.entry.EntryKind.{EntryKind}
use Rattle.booking.specs.declared.entry.EntryKind.TheVariants.{PlainAmount, Unfilled, Filled}
use Rattle.booking.specs.Weighing.{kind_weight, weight_sum}
use Rattle.booking.specs.Balances.{balance_in, add_amount, add_kind, balances_after}
use Rattle.books.specs.States.{Books}
use Rattle.law.specs.Amounts.{amount_if, amount_of_kind, amount_settled, balances_to, BalancesAreSettled}
use Rattle.law.proofs.Stocks.{lots_weight, lots_weight_sum}

-- an account and a commodity that may be there
pub record AccountThere (a : ℕ) : Type 0 where
  pub a_low : 1 ≤ a
  pub a_high : a ≤ 64

pub record PlaceThere (a c : ℕ) : Type 0 where
  pub a_low : 1 ≤ a
  pub a_high : a ≤ 64
  pub c_low : 1 ≤ c
  pub c_high : c ≤ 16

abbrev pub KindThere : EntryKind → Type 0
KindThere (PlainAmount account amount commodity) = PlaceThere account commodity
KindThere (Unfilled account) = AccountThere account
KindThere (Filled account amount commodity) = PlaceThere account commodity
KindThere _ = Unit {0}

abbrev pub EntryThere : Entry → Type 0
EntryThere e = KindThere e.kind

-- what an entry weighs by its plain amount, in hundredths
abbrev pub in_commodity : ℕ → ℕ → ℤ → ℤ
in_commodity c d z = cond (eqb d c) z (pos 0)

abbrev pub plain_of_kind : ℕ → EntryKind → ℤ
plain_of_kind c (PlainAmount account amount commodity) = in_commodity c commodity amount
plain_of_kind c (Filled account amount commodity) = in_commodity c commodity amount
plain_of_kind c _ = pos 0

abbrev pub plain_sum : ℕ → List Entry → ℤ
plain_sum c es = sum_of_ints (λ e. plain_of_kind c e.kind) es

plain_weighs : (c d : ℕ) (z : ℤ) → in_commodity c d (z *ℤ pos 100) ≡ pos 100 *ℤ in_commodity c d z +ℤ pos 0
plain_weighs c d z = grind (arith, ints, nat_tests)

kind_weighs : (c : ℕ) (kind : EntryKind) → kind_weight c kind ≡ pos 100 *ℤ plain_of_kind c kind +ℤ lots_weight c kind
kind_weighs c (PlainAmount account amount commodity) = plain_weighs c commodity amount
kind_weighs c (Filled account amount commodity) = plain_weighs c commodity amount
kind_weighs c _ = omega (arith, ints)

-- weights are 100 times the plain amounts, and the lots at cost
pub entries_weigh : (c : ℕ) (es : List Entry) → weight_sum es c ≡ pos 100 *ℤ plain_sum c es +ℤ lots_weight_sum c es
entries_weigh c [] = refl
entries_weigh c (e ∷ es) = let h = kind_weighs c e.kind in let ih = entries_weigh c es in omega (arith, ints)

-- Balances after entries.

added_at : (bs : List ℤ) (a c b d : ℕ) (z : ℤ) → length bs ≡ 1024 → PlaceThere a c → PlaceThere b d → balance_in (add_amount bs b d z) a c ≡ balance_in bs a c +ℤ amount_if a c b d z
added_at bs a c b d z len ac bd = search (rules, tests)

kind_length : (bs : List ℤ) (kind : EntryKind) → length (add_kind bs kind) ≡ length bs
kind_length bs (PlainAmount account amount commodity) = simp length-set
kind_length bs (Filled account amount commodity) = simp length-set
kind_length bs _ = refl

pub balances_length : (es : List Entry) (bs : List ℤ) → length (balances_after bs es) ≡ length bs
balances_length [] bs = refl
balances_length (e ∷ es) bs = balances_length es (add_kind bs e.kind) ∙ kind_length bs e.kind

kind_at : (bs : List ℤ) (a c : ℕ) (kind : EntryKind) → length bs ≡ 1024 → PlaceThere a c → KindThere kind → balance_in (add_kind bs kind) a c ≡ balance_in bs a c +ℤ amount_of_kind a c kind
kind_at bs a c (PlainAmount account amount commodity) len ac there = added_at bs a c account commodity amount len ac there
kind_at bs a c (Filled account amount commodity) len ac there = added_at bs a c account commodity amount len ac there
kind_at bs a c _ len ac there = omega (arith, ints)

pub balances_at : (es : List Entry) (bs : List ℤ) (a c : ℕ) → length bs ≡ 1024 → PlaceThere a c → AllByRecursion EntryThere es → balance_in (balances_after bs es) a c ≡ balance_in bs a c +ℤ amount_settled a c es
balances_at [] bs a c len ac all = omega (arith, ints)
balances_at (e ∷ es) bs a c len ac all =
    let here = kind_at bs a c e.kind len ac all.0 in
    let far = balances_at es (add_kind bs e.kind) a c (kind_length bs e.kind ∙ len) ac all.1 in
    omega (arith, ints)

-- All accounts together.

abbrev amounts_to : ℕ → ℕ → List Entry → ℤ
amounts_to zero c es = pos 0
amounts_to (suc n) c es = amount_settled (suc n) c es +ℤ amounts_to n c es

abbrev amounts_of_kind_to : ℕ → ℕ → EntryKind → ℤ
amounts_of_kind_to zero c kind = pos 0
amounts_of_kind_to (suc n) c kind = amount_of_kind (suc n) c kind +ℤ amounts_of_kind_to n c kind

amounts_none : (n c : ℕ) → amounts_to n c [] ≡ pos 0
amounts_none zero c = refl
amounts_none (suc n) c = let ih = amounts_none n c in omega (arith, ints)

amounts_cons : (n c : ℕ) (e : Entry) (es : List Entry) → amounts_to n c (e ∷ es) ≡ amounts_of_kind_to n c e.kind +ℤ amounts_to n c es
amounts_cons zero c e es = refl
amounts_cons (suc n) c e es = let ih = amounts_cons n c e es in omega (arith, ints)

-- an amount is settled in one account
one_account : (n c b d : ℕ) (z : ℤ) → 1 ≤ b → amounts_of_kind_to n c (PlainAmount b z d) ≡ cond (leb b n) (in_commodity c d z) (pos 0)
one_account zero c b d z h = grind (arith, nat_tests)
one_account (suc n) c b d z h = let ih = one_account n c b d z h in grind (arith, ints, nat_tests)

filled_alike : (n c b d : ℕ) (z : ℤ) → amounts_of_kind_to n c (Filled b z d) ≡ amounts_of_kind_to n c (PlainAmount b z d)
filled_alike zero c b d z = refl
filled_alike (suc n) c b d z = let ih = filled_alike n c b d z in omega (arith, ints)

no_amount : (n c : ℕ) (kind : EntryKind) → ((a : ℕ) → amount_of_kind a c kind ≡ pos 0) → amounts_of_kind_to n c kind ≡ pos 0
no_amount zero c kind h = refl
no_amount (suc n) c kind h = let ih = no_amount n c kind h in let g = h (suc n) in omega (arith, ints)

kind_spread : (c : ℕ) (kind : EntryKind) → KindThere kind → amounts_of_kind_to 64 c kind ≡ plain_of_kind c kind
kind_spread c (PlainAmount b z d) there = one_account 64 c b d z there.a_low ∙ cond-true (leb b 64) (in_commodity c d z) (pos 0) (le-leb b 64 there.a_high)
kind_spread c (Filled b z d) there = filled_alike 64 c b d z ∙ one_account 64 c b d z there.a_low ∙ cond-true (leb b 64) (in_commodity c d z) (pos 0) (le-leb b 64 there.a_high)
kind_spread c kind there = no_amount 64 c kind (λ a. refl)

entries_spread : (c : ℕ) (es : List Entry) → AllByRecursion EntryThere es → amounts_to 64 c es ≡ plain_sum c es
entries_spread c [] all = amounts_none 64 c
entries_spread c (e ∷ es) all =
    let a = amounts_cons 64 c e es in
    let b = kind_spread c e.kind all.0 in
    let ih = entries_spread c es all.1 in
    omega (arith, ints)

balances_spread : (n c : ℕ) (b : Books) (es : List Entry) → n ≤ 64 → 1 ≤ c → c ≤ 16 → BalancesAreSettled es b → balances_to n c b ≡ amounts_to n c es
balances_spread zero c b es h l m s = refl
balances_spread (suc n) c b es h l m s =
    let ih = balances_spread n c b es (omega arith) l m s in
    let here = s (suc n) c (omega arith) h l m in
    omega (arith, ints)

pub balances_plain : (c : ℕ) (b : Books) (es : List Entry) → 1 ≤ c → c ≤ 16 → AllByRecursion EntryThere es → BalancesAreSettled es b → balances_to 64 c b ≡ plain_sum c es
balances_plain c b es l m all s =
    balances_spread 64 c b es (omega arith) l m s ∙ entries_spread c es all
