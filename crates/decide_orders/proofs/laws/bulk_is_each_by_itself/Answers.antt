use Rattle.decide_orders.proofs.Entries.{all_joined}
use Rattle.decide_orders.proofs.laws.bulk_is_each_by_itself.Goals as goal

pub returns : goal.returns
returns c = all_joined
