use Rattle.law.proofs.Runs.{books_stand}
use Rattle.law.proofs.RunRecords.{record_stands}
use Rattle.law.proofs.books_stand_under.Goals as goal

pub returns : goal.returns
returns g c = record {
  books = books_stand (g.P.Policy.order c.args.policy.now) (g.met.P.Policy.keeps c.args.policy.now);
  recorded = record_stands (g.P.Policy.order c.args.policy.now) (g.met.P.Policy.keeps c.args.policy.now);
}
