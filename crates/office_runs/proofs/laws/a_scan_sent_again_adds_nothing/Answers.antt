use Rattle.office_runs.proofs.ScansAgain.{admits_again}
use Rattle.office_runs.proofs.laws.a_scan_sent_again_adds_nothing.Goals as goal

pub returns : goal.returns
returns c = admits_again
