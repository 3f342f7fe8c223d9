-- A commodity's name is spelled as it is tested.
use Rattle.std.proofs.Common.{ℕ, ◌≤◌, ◌&&◌, leb, ◌⊎◌, List, [], ◌∷◌, length, get_or, Decides, refl, arith}
use Rattle.std.specs.Char.{is_ascii_uppercase}
use Rattle.std.specs.List.{list_all}
use Rattle.std.proofs.lemmas.Bool.Decides.{nat_tests, Decides-and, Decides-or, Decides-like}
use Rattle.std.proofs.ByRecursion.{Decides-by_and}
use Rattle.byte_text.specs.Classes.{in_class}
use Rattle.byte_text.specs.declared.ByteClass.TheVariants.{CommodityName}
use Rattle.values.specs.Names.{is_commodity_name}
use Rattle.values.specs.Spelling.{Capital, Digit, Starts, IsCommodityName}

pub within_decides : (low high b : ℕ) → Decides (leb low b && leb b high) ((low ≤ b) × (b ≤ high))
within_decides low high b = grind (arith, nat_tests)

pub capital_or_digit : (b : ℕ) → Decides (in_class CommodityName b) (Capital b ⊎ Digit b)
capital_or_digit b = Decides-or _ _ (within_decides 65 90 b) (within_decides 48 57 b)

pub first_capital : (t : List ℕ) → Decides (is_ascii_uppercase (get_or t 0 0)) (Starts Capital t)
first_capital [] = (λ e. absurd (grind (arith, nat_tests)), λ h. absurd h)
first_capital (b ∷ bs) = within_decides 65 90 b

pub commodity_decides : (t : List ℕ) → Decides (is_commodity_name t) (IsCommodityName t)
unfolding is_commodity_name
commodity_decides t =
    Decides-like _
    (λ h. record { two_or_more = h.0.0; eight_at_most = h.0.1; capital_first = h.1.0; capitals_or_digits = h.1.1 })
    (λ n. ((n.two_or_more, n.eight_at_most), (n.capital_first, n.capitals_or_digits)))
    (Decides-and _ _
    (within_decides 2 8 (length t))
    (Decides-and _ _ (first_capital t) (Decides-by_and (in_class CommodityName) (λ b. Capital b ⊎ Digit b) (list_all (in_class CommodityName)) capital_or_digit refl (λ _ _. refl) t)))
