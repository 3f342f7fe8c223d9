use Rattle.std.proofs.Common.{arith}
use Rattle.record.proofs.Written.{all_sized}
use Rattle.record.proofs.writer.write_rows.Goals as goal

pub returns-clause-sized : goal.returns-clause-sized
returns-clause-sized c = all_sized c.args.rows.now (λ k h. c.loop-i.invariant.1 k (omega arith))
