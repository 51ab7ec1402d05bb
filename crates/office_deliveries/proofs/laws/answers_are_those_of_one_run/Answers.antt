use Rattle.office_deliveries.proofs.Whole.{all_more}
use Rattle.office_deliveries.proofs.laws.answers_are_those_of_one_run.Goals as goal

pub returns : goal.returns
returns c = all_more
