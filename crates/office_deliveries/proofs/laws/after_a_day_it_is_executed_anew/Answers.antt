use Rattle.office_deliveries.proofs.Again.{executed_anew}
use Rattle.office_deliveries.proofs.laws.after_a_day_it_is_executed_anew.Goals as goal

pub returns : goal.returns
returns c = λ t. executed_anew t.opening t.before t.earlier t.between t.later
