use Rattle.decide_orders.proofs.Added.{added_takes_no_more}
use Rattle.decide_orders.proofs.laws.added_takes_no_more.Goals as goal

pub returns : goal.returns
returns c = λ added heeds. added_takes_no_more added.request added.draw added.before added.after added.row added.done heeds
