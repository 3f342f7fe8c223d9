use Rattle.std.proofs.Common.{ℕ, List, length, drop, replicate, ap, ◌∙◌, arith, length-append}
use Rattle.std.proofs.lemmas.List.{length-drop, drop-replicate}
use Rattle.std.proofs.lemmas.Slice.{drop-append-drop}
use Rattle.books.proofs.name.Name.new.Goals as goal

pub invariant_of-result : goal.invariant_of-result
invariant_of-result c =
    let n = length c.front-kept.result.now in
    let same = ap length c.copy_from_slice.ensures.after in
    let places : List ℕ = replicate 48 0 in
    (omega arith, (omega (arith, same, length-append c.copy_from_slice.new.self (drop n places), length-drop n places), drop-append-drop n places c.copy_from_slice.new.self n (omega arith) same ∙ drop-replicate n 48 0))
