use Rattle.std.proofs.Common.{arith}
use Rattle.journals.proofs.most_outcomes.Goals as goal

pub overflow_add-most : goal.overflow_add-most
overflow_add-most c = omega (arith, c.in-Some.ensures.shorter, c.loop-cut.invariant.1)
