use Rattle.decide_vouchers.proofs.Made.{made_not_over, made_takes_no_more}
use Rattle.decide_vouchers.proofs.laws.making_takes_no_more.Goals as goal

pub returns-clause-none_over : goal.returns-clause-none_over
returns-clause-none_over c = λ made. made_not_over made.request made.draw made.before made.after made.row made.done

pub returns-clause-takes : goal.returns-clause-takes
returns-clause-takes c = λ made. made_takes_no_more made.request made.draw made.before made.after made.row made.done
