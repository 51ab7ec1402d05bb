use Rattle.model_damage.proofs.Sounds.{keeps_all}
use Rattle.model_damage.proofs.laws.a_sound_office_keeps_the_rules.Goals as goal

pub returns : goal.returns
returns c = λ file rule organizer event sound counted. keeps_all file rule organizer event sound counted
