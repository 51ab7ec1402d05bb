use Rattle.decide_orders.proofs.Whole.{tested_whole}
use Rattle.decide_orders.proofs.laws.uses_are_tested_as_a_whole.Goals as goal

pub returns : goal.returns
returns c = tested_whole
