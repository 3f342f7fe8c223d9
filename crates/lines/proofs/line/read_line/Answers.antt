use Rattle.std.proofs.Common.{◌≡◌, rules}
use Rattle.std.specs.Option.{option_map}
use Rattle.fields.specs.Results.{map_ok}
use Rattle.lines.specs.Lines.{line_says}
use Rattle.lines.specs.Said.{said}
use Rattle.lines.proofs.LineForms.{says_by_kind, reads_exactly}
use Rattle.lines.proofs.line.read_line.Goals as goal

pub returns : goal.returns
returns c =
    let e : map_ok (option_map said) c.map_err.result ≡ line_says c.args.number c.args.line.now =
    says_by_kind _ _ c.read_by_kind.result c.map_err.result c.read_by_kind.ensures (search rules) in
    record { value = e; exactly = reads_exactly _ _ _ e }
