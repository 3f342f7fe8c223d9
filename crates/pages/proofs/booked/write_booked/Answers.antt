use Rattle.std.proofs.Common.{[], ◌++◌, codes, refl}
use Rattle.std.specs.String.{string_bytes}
use Rattle.pages.specs.Pages.{refusal_lines, row_lines, holding_lines, lots_part, page_text}
use Rattle.pages.specs.Rows.{rows_in}
use Rattle.pages.proofs.Appending.{next, last}
use Rattle.pages.proofs.booked.write_booked.Goals as goal

pub returns : goal.returns
unfolding page_text
returns g c =
    let a = c.args in
    let s = a.ledger.now.state in
    let lots = lots_part s a.with_lots in
    let held = holding_lines s 1 s.names.accounts in
    let rows = row_lines s.names (rows_in a.book.now) in
    let end = held ++ (lots ++ []) in
    let refused = next (string_bytes a.out.now) (refusal_lines a.outcomes.now) (codes "register\n" ++ (rows ++ (codes "balances\n" ++ end))) refl c.in_ok-write_refusals.ensures in
    let titled = next (string_bytes c.write_refusals.new.out) (codes "register\n") (rows ++ (codes "balances\n" ++ end)) refused c.in_ok-writeln.ensures.bytes in
    let registered = next (string_bytes c.writeln.new.self) rows (codes "balances\n" ++ end) titled c.in_ok-write_rows.ensures in
    let titled = next (string_bytes c.write_rows.new.out) (codes "balances\n") end registered c.in_ok-writeln-2.ensures.bytes in
    let balanced = next (string_bytes c.writeln-2.new.self) held (lots ++ []) titled c.in_ok-write_holdings.ensures in
    last (string_bytes c.write_holdings.new.out) lots (string_bytes c.write_lots_part.new.out) c.write_lots_part.result balanced c.write_lots_part.ensures
