use Rattle.model_invariant.proofs.OrderLowers.{kept_refills_none}
use Rattle.decide_orders.proofs.Moved.{moved_lowers}
use Rattle.decide_orders.proofs.laws.other_moves_lower.Goals as goal

pub returns-clause-lower : goal.returns-clause-lower
returns-clause-lower c = λ moved old quota sound stands stood which again. moved_lowers moved.number moved.change moved.before moved.after moved.rows old quota sound stands stood which again moved.done

pub returns-clause-kept : goal.returns-clause-kept
returns-clause-kept c = λ lists at quota old status closed. kept_refills_none lists at quota closed old status
