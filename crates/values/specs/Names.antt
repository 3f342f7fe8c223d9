-- Names of commodities and accounts, as tests. Assumes nothing.
use Rattle.std.specs.Prelude.{ℕ, Bool, false, ◌&&◌, ◌||◌, List, [], ◌∷◌, length, take, codes, ◌==◌, nat_le, slice_index}
use Rattle.std.specs.Char.{is_ascii_uppercase}
use Rattle.std.specs.Str.{bytes_eq}
use Rattle.std.specs.List.{list_all, slice_split}
use Rattle.byte_text.specs.Classes.{in_class, all_in}
use Rattle.byte_text.specs.declared.ByteClass.TheVariants.{CommodityName, AccountPart}

-- 2 to 8 bytes A to Z or 0 to 9, the first a letter
unfoldable pub is_commodity_name : List ℕ → Bool
is_commodity_name t = (nat_le 2 (length t) && nat_le (length t) 8) && (is_ascii_uppercase (slice_index t 0) && all_in CommodityName t)

-- the parts of a text between its bytes `stop`
abbrev pub split_at : ℕ → List ℕ → List (List ℕ)
split_at stop bs = slice_split (λ b. b == stop) bs

-- starts with A to Z or a digit and goes on with letters, digits or hyphens
abbrev pub is_part : List ℕ → Bool
is_part t = in_class CommodityName (slice_index t 0) && all_in AccountPart t

abbrev pub is_root : List ℕ → Bool
is_root t = (bytes_eq t (codes "Assets") || (bytes_eq t (codes "Liabilities") || (bytes_eq t (codes "Equity") || (bytes_eq t (codes "Income") || bytes_eq t (codes "Expenses")))))

-- parts of a name, at most so many
abbrev pub all_parts : ℕ → List (List ℕ) → Bool
all_parts most ps = list_all is_part ps && nat_le (length ps) most

abbrev pub root_and_parts : List (List ℕ) → Bool
root_and_parts [] = false
root_and_parts (p ∷ ps) = is_root p && (nat_le 1 (length ps) && all_parts 5 ps)

-- at most 48 bytes, and two to six parts between colons, the first a root
unfoldable pub is_account_name : List ℕ → Bool
is_account_name t = nat_le (length t) 48 && root_and_parts (split_at 58 t)

abbrev pub lies_under : List ℕ → List ℕ → Bool
lies_under a b = bytes_eq a b || (bytes_eq (take (length b) a) b && slice_index a (length b) == 58)
