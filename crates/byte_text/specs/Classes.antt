-- The classes of bytes that the journal's grammar speaks of. Assumes nothing.
use Rattle.std.specs.Prelude.{ℕ, Bool, not, ◌&&◌, ◌||◌, List, ◌==◌, nat_le}
use Rattle.std.specs.Char.{is_ascii_digit, is_ascii_uppercase, is_ascii_alphabetic}
use Rattle.std.specs.List.{prefix_len, list_all}
use Rattle.byte_text.specs.declared.ByteClass.{ByteClass}
use Rattle.byte_text.specs.declared.ByteClass.TheVariants.{Printable, Space, Except, CommodityName, AccountPart, QuotedText}

abbrev pub in_class : ByteClass → ℕ → Bool
in_class Printable b = nat_le 32 b && nat_le b 126
in_class Space b = b == 32
in_class (Except stop) b = not (b == stop)
in_class CommodityName b = is_ascii_uppercase b || is_ascii_digit b
in_class AccountPart b = (is_ascii_alphabetic b || is_ascii_digit b) || b == 45
in_class QuotedText b = not (b == 34) && not (b == 92)

-- how many bytes of a class stand first
abbrev pub run_length : ByteClass → List ℕ → ℕ
run_length class bs = prefix_len (in_class class) bs

abbrev pub all_in : ByteClass → List ℕ → Bool
all_in class bs = list_all (in_class class) bs

-- how many bytes stand before the first `stop`, all of them if it is not there
abbrev pub before : ℕ → List ℕ → ℕ
before stop bs = run_length (Except stop) bs
