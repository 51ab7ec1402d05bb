use Rattle.web_bodies.proofs.Enough.{front_said}
use Rattle.web_bodies.proofs.order_bodies.front_entries.Goals as goal

pub returns : goal.returns
returns c = rw (front_said c.args.list.now c.min.result c.min.ensures) at c.entries.ensures
