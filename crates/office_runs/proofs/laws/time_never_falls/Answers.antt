use Rattle.office_runs.proofs.Runs.{never_back_all}
use Rattle.office_runs.proofs.laws.time_never_falls.Goals as goal

pub returns : goal.returns
returns c = never_back_all
