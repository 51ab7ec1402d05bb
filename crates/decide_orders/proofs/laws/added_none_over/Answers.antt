use Rattle.decide_orders.proofs.Added.{added_none_over}
use Rattle.decide_orders.proofs.laws.added_none_over.Goals as goal

pub returns : goal.returns
returns c = λ added. added_none_over added.request added.draw added.before added.after added.row added.done
