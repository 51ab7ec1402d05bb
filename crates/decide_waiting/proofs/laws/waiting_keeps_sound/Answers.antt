use Rattle.decide_waiting.proofs.Joins.{joined_sound}
use Rattle.decide_waiting.proofs.Leaves.{changed_sound, left_sound}
use Rattle.decide_waiting.proofs.SentSound.{sent_sound, served_sound}
use Rattle.decide_waiting.proofs.laws.waiting_keeps_sound.Goals as goal

pub returns-clause-joined : goal.returns-clause-joined
returns-clause-joined c = λ joined fit sound. joined_sound joined.request joined.before joined.after joined.row fit sound joined.done

pub returns-clause-changed : goal.returns-clause-changed
returns-clause-changed c = λ changed fit sound. changed_sound changed.id changed.patch changed.before changed.after changed.row fit sound changed.done

pub returns-clause-left : goal.returns-clause-left
returns-clause-left c = λ id before after sound h. left_sound id before after sound h

pub returns-clause-sent : goal.returns-clause-sent
returns-clause-sent c = λ sent sixteen sound. sent_sound sent.draw sixteen sent.id sent.before sent.after sent.row sound sent.done

pub returns-clause-served : goal.returns-clause-served
returns-clause-served c = λ draw before sixteen sound. served_sound draw sixteen before sound
