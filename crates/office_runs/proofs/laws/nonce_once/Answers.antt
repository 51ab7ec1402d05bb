use Rattle.office_runs.proofs.ScansAgain.{nonces_all}
use Rattle.office_runs.proofs.laws.nonce_once.Goals as goal

pub returns : goal.returns
returns c = nonces_all
