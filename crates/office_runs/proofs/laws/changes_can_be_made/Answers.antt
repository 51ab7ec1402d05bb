use Rattle.office_runs.proofs.Changes.{changes_all}
use Rattle.office_runs.proofs.laws.changes_can_be_made.Goals as goal

pub returns : goal.returns
returns c = changes_all
