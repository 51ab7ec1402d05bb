use Rattle.office_deliveries.proofs.Running.{reopened}
use Rattle.office_deliveries.proofs.laws.reopened_shops_run.Goals as goal

pub returns : goal.returns
returns g c = reopened g.T.Tables.holds g.T.Tables.may_leave g.T.Tables.reorders
