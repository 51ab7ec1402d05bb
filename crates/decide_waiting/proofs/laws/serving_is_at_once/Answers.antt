use Rattle.decide_waiting.proofs.Served.{sound_at_once}
use Rattle.decide_waiting.proofs.laws.serving_is_at_once.Goals as goal

pub returns : goal.returns
returns c = sound_at_once
