use Rattle.decide_orders.proofs.Expires.{expired_sound, dropped_carts_sound}
use Rattle.decide_orders.proofs.laws.overdue_keeps_sound.Goals as goal

pub returns-clause-expired : goal.returns-clause-expired
returns-clause-expired c = expired_sound

pub returns-clause-dropped : goal.returns-clause-dropped
returns-clause-dropped c = dropped_carts_sound
