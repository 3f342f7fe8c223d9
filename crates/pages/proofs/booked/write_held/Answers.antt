use Rattle.std.proofs.Common.{◌≡◌, [], ◌∷◌, ◌++◌, refl, rules}
use Rattle.std.specs.String.{string_bytes}
use Rattle.pages.specs.Pages.{account_name, units_text, held_line, newline}
use Rattle.pages.proofs.Appending.{next, last}
use Rattle.pages.proofs.booked.write_held.Goals as goal

pub returns : goal.returns
unfolding held_line
returns g c =
    let names = c.args.ledger.now.state.names in
    let units = units_text names c.args.units c.args.commodity in
    let named = next (string_bytes c.args.out.now) (account_name names c.args.account ++ (32 ∷ [])) (units ++ (newline ++ [])) refl c.in_ok-write_account_name.ensures in
    let more : string_bytes c.write_units.new.out ≡ string_bytes c.write_account_name.new.out ++ units = search rules in
    let counted = next (string_bytes c.write_account_name.new.out) units (newline ++ []) named more in
    last (string_bytes c.write_units.new.out) newline (string_bytes c.writeln.new.self) c.writeln.result counted c.writeln.ensures.bytes
