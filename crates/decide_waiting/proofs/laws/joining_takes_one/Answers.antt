use Rattle.decide_waiting.proofs.Joins.{joined_takes_one}
use Rattle.decide_waiting.proofs.laws.joining_takes_one.Goals as goal

pub returns : goal.returns
returns c = λ joined quota sound. joined_takes_one joined.request joined.before joined.after joined.row quota sound joined.done
