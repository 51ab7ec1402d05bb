use Rattle.decide_orders.proofs.Enough.{entries_enough, positions_enough}
use Rattle.decide_orders.proofs.laws.the_first_are_enough.Goals as goal

pub returns-clause-entries : goal.returns-clause-entries
returns-clause-entries c = entries_enough

pub returns-clause-positions : goal.returns-clause-positions
returns-clause-positions c = positions_enough
