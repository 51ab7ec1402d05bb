use Rattle.decide_orders.proofs.Dropped.{dropped_lowers}
use Rattle.decide_orders.proofs.laws.dropping_lowers.Goals as goal

pub returns : goal.returns
returns c = λ id before after quota h. dropped_lowers id before after quota h
