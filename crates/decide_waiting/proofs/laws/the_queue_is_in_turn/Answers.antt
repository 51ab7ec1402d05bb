use Rattle.decide_waiting.proofs.InTurn.{queue_permuted, queue_in_turn}
use Rattle.decide_waiting.proofs.laws.the_queue_is_in_turn.Goals as goal

pub returns-clause-same_entries : goal.returns-clause-same_entries
returns-clause-same_entries c = queue_permuted

pub returns-clause-earlier_first : goal.returns-clause-earlier_first
returns-clause-earlier_first c = queue_in_turn
