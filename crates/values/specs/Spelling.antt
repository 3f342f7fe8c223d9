-- How the names of commodities and accounts are spelled. Assumes nothing.
use Rattle.std.specs.Prelude.{◌≡◌, ℕ, ◌≤◌, ◌⊎◌, List, [], ◌∷◌, ◌++◌, length, codes}
use Rattle.std.specs.List.{AllByRecursion}

-- classes of bytes: A to Z, a to z, 0 to 9
abbrev pub Capital : ℕ → Type 0
Capital b = (65 ≤ b) × (b ≤ 90)

abbrev pub Lowercase : ℕ → Type 0
Lowercase b = (97 ≤ b) × (b ≤ 122)

abbrev pub Digit : ℕ → Type 0
Digit b = (48 ≤ b) × (b ≤ 57)

-- a text starts with a byte of which P holds
abbrev pub Starts : (ℕ → Type 0) → List ℕ → Type 0
Starts P [] = ⊥
Starts P (b ∷ bs) = P b

-- a commodity's name has 2 to 8 bytes, capitals or digits, the first a capital
pub record IsCommodityName (t : List ℕ) : Type 0 where
  pub two_or_more : 2 ≤ length t
  pub eight_at_most : length t ≤ 8
  pub capital_first : Starts Capital t
  pub capitals_or_digits : AllByRecursion (λ b. Capital b ⊎ Digit b) t

-- an account's name starts with one of five roots
abbrev pub Root : List ℕ → Type 0
Root t = (t ≡ codes "Assets") ⊎ ((t ≡ codes "Liabilities") ⊎ ((t ≡ codes "Equity") ⊎ ((t ≡ codes "Income") ⊎ (t ≡ codes "Expenses"))))

-- any other part starts with a capital or a digit and goes on with letters, digits or hyphens
pub record Part (t : List ℕ) : Type 0 where
  pub capital_or_digit_first : Starts (λ b. Capital b ⊎ Digit b) t
  pub letters_digits_hyphens : AllByRecursion (λ b. ((Capital b ⊎ Lowercase b) ⊎ Digit b) ⊎ (b ≡ 45)) t

-- the parts joined by colons
abbrev pub joined_by_colons : List ℕ → List (List ℕ) → List ℕ
joined_by_colons first [] = first
joined_by_colons first (p ∷ ps) = first ++ 58 ∷ joined_by_colons p ps

-- an account's name has at most 48 bytes: a root, and one to five parts behind it
pub record IsAccountName (t : List ℕ) : Type 0 where
  pub root : List ℕ
  pub parts : List (List ℕ)
  pub spelled : t ≡ joined_by_colons root parts
  pub a_root : Root root
  pub one_or_more : 1 ≤ length parts
  pub five_at_most : length parts ≤ 5
  pub each_a_part : AllByRecursion Part parts
  pub short : length t ≤ 48

-- an account lies under another if it is that one or starts with its name and a colon
abbrev pub LiesUnder : List ℕ → List ℕ → Type 0
LiesUnder a b = (a ≡ b) ⊎ ((rest : List ℕ) × (a ≡ b ++ 58 ∷ rest))
