-- Names are kept whole: those that are allowed are at most 48 bytes.
use Rattle.std.proofs.Common.{◌≡◌, ℕ, true, List, take, arith}
use Rattle.std.proofs.lemmas.List.{take_all}
use Rattle.std.proofs.lemmas.Bool.Decides.{nat_tests}
use Rattle.values.specs.Names.{is_commodity_name, is_account_name}

pub commodity_whole : (t : List ℕ) → is_commodity_name t ≡ true → take 48 t ≡ t
unfolding is_commodity_name
commodity_whole t e = take_all 48 t (grind (arith, nat_tests))

pub account_whole : (t : List ℕ) → is_account_name t ≡ true → take 48 t ≡ t
unfolding is_account_name
account_whole t e = take_all 48 t (grind (arith, nat_tests))
