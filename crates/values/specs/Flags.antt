-- A transaction's flag by its number. Assumes nothing.
use Rattle.std.specs.Prelude.{ℕ}
use Rattle.values.specs.declared.flag.Flag.{Flag}
use Rattle.values.specs.declared.flag.Flag.TheVariants.{Complete, Incomplete}

abbrev pub flag_number : Flag → ℕ
flag_number Complete = 0
flag_number Incomplete = 1
