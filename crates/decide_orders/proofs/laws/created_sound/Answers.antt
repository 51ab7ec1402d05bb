use Rattle.decide_orders.proofs.Created.{created_sound}
use Rattle.decide_orders.proofs.laws.created_sound.Goals as goal

pub returns : goal.returns
returns c = λ made fit sixteen sound. created_sound made.request made.draw made.before made.after made.rows fit sixteen sound made.done
