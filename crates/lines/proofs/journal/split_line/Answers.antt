use Rattle.std.proofs.Common.{◌≡◌, Some, Option, rules}
use Rattle.std.specs.Option.{option_map}
use Rattle.lines.specs.Journals.{cut_said, first_line}
use Rattle.lines.specs.declared.journal.LineCut.{LineCut}
use Rattle.lines.proofs.Journals.{lines_cut, rest_shorter}
use Rattle.lines.proofs.journal.split_line.Goals as goal

pub returns : goal.returns
unfolding first_line
returns c =
    let r : Option LineCut = Some (record { line = c.front.result; rest = c.after.result }) in
    let e : option_map cut_said r ≡ first_line c.args.journal.now = search rules in
    record { value = e; lines = lines_cut r _ e; shorter = rest_shorter r _ e }
