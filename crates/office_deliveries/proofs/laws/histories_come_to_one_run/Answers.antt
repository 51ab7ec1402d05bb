use Rattle.office_deliveries.proofs.Crashes.{come_from_opening}
use Rattle.office_deliveries.proofs.laws.histories_come_to_one_run.Goals as goal

pub returns : goal.returns
returns c = come_from_opening
