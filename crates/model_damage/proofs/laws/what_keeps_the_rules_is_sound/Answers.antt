use Rattle.model_damage.proofs.Sounds.{sound_of}
use Rattle.model_damage.proofs.laws.what_keeps_the_rules_is_sound.Goals as goal

pub returns : goal.returns
returns c = λ file all. sound_of file all
