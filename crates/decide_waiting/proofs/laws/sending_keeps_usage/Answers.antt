use Rattle.decide_waiting.proofs.Sent.{sending_trades, sending_keeps_used}
use Rattle.decide_waiting.proofs.laws.sending_keeps_usage.Goals as goal

pub returns-clause-trades : goal.returns-clause-trades
returns-clause-trades c = λ sent quota sound. sending_trades sent.id sent.draw sent.before sent.after sent.row sound sent.done quota

pub returns-clause-used : goal.returns-clause-used
returns-clause-used c = λ sent quota sound. sending_keeps_used sent.id sent.draw sent.before sent.after sent.row sound sent.done quota
