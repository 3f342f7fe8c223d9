-- The parts that braces have, without their addresses in memory. Assumes nothing.
use Rattle.std.specs.Prelude.{Option, Some, None}
use Rattle.std.specs.Option.{option_map}
use Rattle.fields.specs.Spots.{Spot, seen}
use Rattle.lines.specs.Braces as spec
use Rattle.lines.specs.declared.shapes.Words.{Words}
use Rattle.lines.specs.declared.shapes.Shape.{Shape}

abbrev pub words_seen : Words → spec.Words
words_seen w = record { number = seen w.number; commodity = seen w.commodity }

abbrev pub shape_of : Option spec.Words → Option Spot → spec.Shape
shape_of None None = spec.no_part
shape_of (Some w) None = spec.cost_part w
shape_of None (Some s) = spec.date_part s
shape_of (Some w) (Some s) = spec.both_parts w s

abbrev pub shape_seen : Shape → spec.Shape
shape_seen s = shape_of (option_map words_seen s.cost) (option_map seen s.date)
