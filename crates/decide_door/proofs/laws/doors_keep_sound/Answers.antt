use Rattle.decide_door.proofs.Added.{added_sound}
use Rattle.decide_door.proofs.Admitted.{admitted_sound}
use Rattle.decide_door.proofs.laws.doors_keep_sound.Goals as goal

pub returns-clause-added : goal.returns-clause-added
returns-clause-added c = added_sound

pub returns-clause-scanned : goal.returns-clause-scanned
returns-clause-scanned c = λ s fit sound. admitted_sound s.list s.ticket s.scan s.before s.after s.position fit sound s.passed
