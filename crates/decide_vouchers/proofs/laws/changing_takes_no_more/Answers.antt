use Rattle.decide_vouchers.proofs.Changed.{changed_not_over, changed_takes_no_more}
use Rattle.decide_vouchers.proofs.laws.changing_takes_no_more.Goals as goal

pub returns-clause-none_over : goal.returns-clause-none_over
returns-clause-none_over c = λ changed. changed_not_over changed.id changed.patch changed.before changed.after changed.row changed.done

pub returns-clause-takes : goal.returns-clause-takes
returns-clause-takes c = λ changed. changed_takes_no_more changed.id changed.patch changed.before changed.after changed.row changed.done
