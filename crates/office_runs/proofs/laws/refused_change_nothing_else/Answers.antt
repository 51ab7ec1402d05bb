use Rattle.office_runs.proofs.Runs.{refused_all}
use Rattle.office_runs.proofs.laws.refused_change_nothing_else.Goals as goal

pub returns : goal.returns
returns c = refused_all
