use Rattle.decide_orders.proofs.Moved.{moved_sound}
use Rattle.decide_orders.proofs.laws.moves_keep_sound.Goals as goal

pub returns : goal.returns
returns c = λ moved fit sound. moved_sound moved.number moved.change moved.before moved.after moved.rows fit sound moved.done
