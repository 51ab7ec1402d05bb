use Rattle.decide_waiting.proofs.Leaves.{changed_keeps_used, left_lowers}
use Rattle.decide_waiting.proofs.laws.others_raise_none.Goals as goal

pub returns-clause-changed : goal.returns-clause-changed
returns-clause-changed c = λ changed quota sound. changed_keeps_used changed.id changed.patch changed.before changed.after changed.row quota sound changed.done

pub returns-clause-left : goal.returns-clause-left
returns-clause-left c = λ id before after quota sound h. left_lowers id before after quota sound h
