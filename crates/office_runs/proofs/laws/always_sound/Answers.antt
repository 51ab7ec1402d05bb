use Rattle.office_runs.proofs.Runs.{sound_all}
use Rattle.office_runs.proofs.laws.always_sound.Goals as goal

pub returns : goal.returns
returns c = sound_all
