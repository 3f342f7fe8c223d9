-- How a layer and a refusal are printed. Assumes nothing.
use Rattle.std.specs.Prelude.{ℕ, List, codes, ◌++◌}
use Rattle.std.specs.Fmt.{decimal}
use Rattle.refusal.specs.declared.Fault.{Fault}
use Rattle.refusal.specs.Table.{number_of, layer_of, name_of}

-- as `refused 6 line 4 place 1 layer text`
abbrev pub fault_text : Fault → List ℕ
fault_text f =
    codes "refused " ++ decimal (number_of f.refusal) ++ codes " line " ++ decimal f.line ++ codes " place " ++ decimal f.place ++ codes " layer " ++ name_of (layer_of f.refusal)
