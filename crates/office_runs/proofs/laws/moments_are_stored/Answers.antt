use Rattle.office_runs.proofs.Runs.{stores_all}
use Rattle.office_runs.proofs.laws.moments_are_stored.Goals as goal

pub returns : goal.returns
returns c = stores_all
