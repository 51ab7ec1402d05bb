use Rattle.decide_orders.proofs.OverBudgets.{asked_prices_fit}
use Rattle.decide_orders.proofs.laws.asked_prices_fit.Goals as goal

pub returns : goal.returns
returns c = asked_prices_fit
