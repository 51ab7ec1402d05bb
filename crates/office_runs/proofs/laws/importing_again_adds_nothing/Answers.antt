use Rattle.office_runs.proofs.ImportAgain.{same_again}
use Rattle.office_runs.proofs.laws.importing_again_adds_nothing.Goals as goal

pub returns : goal.returns
returns c = λ first next stays. same_again first.rows next.rows first.draw next.draw first.state next.state first.fit first.sixteen first.sound next.fit next.sixteen next.sound stays
