use Rattle.app_run.proofs.Sure.{memory_sure}
use Rattle.app_run.proofs.laws.memory_is_sure.Goals as goal

pub returns : goal.returns
returns c = memory_sure
