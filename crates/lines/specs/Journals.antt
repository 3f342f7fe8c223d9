-- A journal cut into lines. Assumes nothing.
use Rattle.std.specs.Prelude.{ℕ, ◌+◌, cond, List, [], ◌∷◌, length, take, drop, Some, None, Option, ◌==◌}
use Rattle.byte_text.specs.Classes.{before}
use Rattle.lines.specs.Lines.{lines_of}
use Rattle.lines.specs.declared.journal.LineCut.{LineCut}

-- a line, and what stands behind its end
pub record FirstLine : Type 0 where
  pub line : List ℕ
  pub rest : List ℕ

abbrev pub cut_said : LineCut → FirstLine
cut_said c = record { line = c.line.now; rest = c.rest.now }

-- the first line of a journal: what stands before its first byte 10, or all of it
unfoldable pub first_line : List ℕ → Option FirstLine
first_line journal =
    cond (length journal == 0) None (Some (record { line = take (before 10 journal) journal; rest = drop (before 10 journal + 1) journal }))

-- the lines that such a cut shows: none, or the first and those of the rest
abbrev pub lines_by : Option LineCut → List (List ℕ)
lines_by None = []
lines_by (Some c) = c.line.now ∷ lines_of c.rest.now
