use Rattle.decide_orders.proofs.Created.{created_none_over}
use Rattle.decide_orders.proofs.laws.created_none_over.Goals as goal

pub returns : goal.returns
returns c = λ made. created_none_over made.request made.draw made.before made.after made.rows made.done
