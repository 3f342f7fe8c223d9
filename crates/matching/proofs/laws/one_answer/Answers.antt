use Rattle.matching.proofs.Uniques.{one_answer}
use Rattle.matching.proofs.laws.one_answer.Goals as goal

pub returns : goal.returns
returns c = one_answer
