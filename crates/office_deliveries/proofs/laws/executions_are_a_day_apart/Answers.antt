use Rattle.office_deliveries.proofs.Apart.{day_apart}
use Rattle.office_deliveries.proofs.laws.executions_are_a_day_apart.Goals as goal

pub returns : goal.returns
returns c = day_apart
