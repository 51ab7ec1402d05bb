use Rattle.decide_orders.proofs.Expires.{expired_lowers, dropped_carts_lower}
use Rattle.decide_orders.proofs.laws.overdue_lowers.Goals as goal

pub returns-clause-expired : goal.returns-clause-expired
returns-clause-expired c = λ state quota sound stands. expired_lowers quota state stands sound

pub returns-clause-dropped : goal.returns-clause-dropped
returns-clause-dropped c = λ state quota sound. dropped_carts_lower quota state sound.ids.carts.in_order
