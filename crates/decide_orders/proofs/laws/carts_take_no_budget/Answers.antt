use Rattle.decide_orders.proofs.Added.{added_spends}
use Rattle.decide_orders.proofs.OverBudgets.{no_cart_is_over}
use Rattle.decide_orders.proofs.laws.carts_take_no_budget.Goals as goal

pub returns-clause-unrefused : goal.returns-clause-unrefused
returns-clause-unrefused c = no_cart_is_over

pub returns-clause-spent : goal.returns-clause-spent
returns-clause-spent c = λ added voucher. added_spends added.request added.draw added.before added.after added.row voucher added.done
