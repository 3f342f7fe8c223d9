use Rattle.std.proofs.Common.{◌≡◌, ◌+◌, ◌<◌, false, true, length, take, drop, sym, arith}
use Rattle.std.proofs.lemmas.Bool.Decides.{Decides-at}
use Rattle.byte_text.specs.Classes.{before}
use Rattle.values.specs.Names.{is_root, is_account_name}
use Rattle.values.proofs.Accounts.{account_decides}
use Rattle.values.proofs.Parts.{account_long, account_alone, account_rootless, account_by}
use Rattle.values.proofs.names.is_account_name.Goals as goal

pub returns-then-text-gt-LONGEST_NAME : goal.returns-then-text-gt-LONGEST_NAME
returns-then-text-gt-LONGEST_NAME c =
    let e : false ≡ is_account_name c.args.text.now = sym (account_long c.args.text.now (omega arith)) in
    record { value = e; exactly = Decides-at _ _ e (account_decides _) }

pub returns-then-n-text : goal.returns-then-n-text
returns-then-n-text c =
    let xs = c.args.text.now in
    let h : before 58 xs ≡ length xs = omega arith in
    let e : false ≡ is_account_name xs = sym (account_alone xs h) in
    record { value = e; exactly = Decides-at _ _ e (account_decides _) }

pub returns-then-is_root_name : goal.returns-then-is_root_name
returns-then-is_root_name c =
    let xs = c.args.text.now in
    let h : before 58 xs < length xs = omega arith in
    let p : is_root (take (before 58 xs) xs) ≡ true = cc in
    let a : c.after.result.now ≡ drop (before 58 xs + 1) xs = cc in
    let b = account_by xs (omega arith) h p in
    let e : c.are_parts.result ≡ is_account_name xs = cc in
    record { value = e; exactly = Decides-at _ _ e (account_decides _) }

pub returns-else-is_root_name : goal.returns-else-is_root_name
returns-else-is_root_name c =
    let xs = c.args.text.now in
    let h : before 58 xs < length xs = omega arith in
    let p : is_root (take (before 58 xs) xs) ≡ false = cc in
    let b = account_rootless xs h p in
    let e : c.is_root_name.result ≡ is_account_name xs = cc in
    record { value = e; exactly = Decides-at _ _ e (account_decides _) }
