use Rattle.std.proofs.Common.{arith, rules}
use Rattle.fields.proofs.Decimals.{digit_found, room}
use Rattle.fields.proofs.digits.read_digits.Goals as goal

pub overflow_mul-n : goal.overflow_mul-n
overflow_mul-n c = let r = room _ _ c.loop-b.invariant.1 (omega arith) in search rules

pub overflow_add-n : goal.overflow_add-n
overflow_add-n c =
    let r = room _ _ c.loop-b.invariant.1 (omega arith) in
    let d = digit_found c.from.result c.in_ok-n.field-0 c.in_ok-n.ensures.value in
    search rules
