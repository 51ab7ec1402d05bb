use Rattle.decide_orders.proofs.Moved.{revived_none_over, revived_takes_no_more}
use Rattle.decide_orders.proofs.laws.revivals_take_no_more.Goals as goal

pub returns-clause-none_over : goal.returns-clause-none_over
returns-clause-none_over c = λ moved old revival. revived_none_over moved.number moved.change moved.before moved.after moved.rows old revival.stood revival.ended revival.back moved.done

pub returns-clause-takes : goal.returns-clause-takes
returns-clause-takes c = λ moved old revival sound heed. revived_takes_no_more moved.number moved.change moved.before moved.after moved.rows old sound revival.stood revival.ended revival.back heed moved.done
