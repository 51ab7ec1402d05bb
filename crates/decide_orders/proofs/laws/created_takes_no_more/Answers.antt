use Rattle.decide_orders.proofs.CreatedTakes.{created_takes_no_more}
use Rattle.decide_orders.proofs.laws.created_takes_no_more.Goals as goal

pub returns : goal.returns
returns c = λ made heed. created_takes_no_more made.request made.draw made.before made.after made.rows heed made.done
