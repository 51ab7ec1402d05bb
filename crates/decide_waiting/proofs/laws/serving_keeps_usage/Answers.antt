use Rattle.decide_waiting.proofs.Sent.{serving_keeps_used}
use Rattle.decide_waiting.proofs.laws.serving_keeps_usage.Goals as goal

pub returns : goal.returns
returns c = λ draw state quota sound. serving_keeps_used draw quota state sound
