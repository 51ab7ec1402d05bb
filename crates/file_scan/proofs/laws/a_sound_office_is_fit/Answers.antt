use Rattle.file_scan.proofs.LimitLemmas.{sound_fits}
use Rattle.file_scan.proofs.laws.a_sound_office_is_fit.Goals as goal

pub returns : goal.returns
returns c = λ shop t state answers first organizer event token stand sound typed. sound_fits shop t state answers first organizer event token stand sound typed
