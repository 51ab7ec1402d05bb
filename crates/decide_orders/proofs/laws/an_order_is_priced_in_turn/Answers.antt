use Rattle.decide_orders.proofs.InTurn.{in_turn, in_turn_refused}
use Rattle.decide_orders.proofs.laws.an_order_is_priced_in_turn.Goals as goal

pub returns-clause-rows : goal.returns-clause-rows
returns-clause-rows c = λ draw state before rows id number xs ys h. in_turn draw state xs ys before rows id number h

pub returns-clause-refused : goal.returns-clause-refused
returns-clause-refused c = λ draw state before id number xs ys refusal h. in_turn_refused draw state xs ys before id number refusal h
