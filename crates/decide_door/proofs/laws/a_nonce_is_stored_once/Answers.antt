use Rattle.decide_door.proofs.Again.{once_after}
use Rattle.decide_door.proofs.laws.a_nonce_is_stored_once.Goals as goal

pub returns : goal.returns
returns c = λ s fit sound. once_after s.list s.ticket s.scan s.before s.after s.position fit sound s.passed
