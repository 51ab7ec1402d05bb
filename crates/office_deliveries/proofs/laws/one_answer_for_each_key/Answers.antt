use Rattle.office_deliveries.proofs.OneEach.{one_each}
use Rattle.office_deliveries.proofs.laws.one_answer_for_each_key.Goals as goal

pub returns : goal.returns
returns c = one_each
