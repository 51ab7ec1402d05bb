use Rattle.base_dates.proofs.MomentLemmas.{reads_back}
use Rattle.base_dates.proofs.laws.moments_read_back.Goals as goal

pub returns : goal.returns
returns c = reads_back
