use Rattle.office_runs.proofs.Runs.{within_all}
use Rattle.office_runs.proofs.laws.takings_stay_within.Goals as goal

pub returns : goal.returns
returns c = within_all
