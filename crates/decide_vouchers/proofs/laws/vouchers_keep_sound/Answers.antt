use Rattle.decide_vouchers.proofs.Made.{made_sound}
use Rattle.decide_vouchers.proofs.Changed.{changed_sound}
use Rattle.decide_vouchers.proofs.Deleted.{deleted_sound}
use Rattle.decide_vouchers.proofs.laws.vouchers_keep_sound.Goals as goal

pub returns-clause-made : goal.returns-clause-made
returns-clause-made c = λ made fit sixteen sound. made_sound made.request made.draw made.before made.after made.row fit sixteen sound made.done

pub returns-clause-changed : goal.returns-clause-changed
returns-clause-changed c = λ changed fit sound. changed_sound changed.id changed.patch changed.before changed.after changed.row fit sound changed.done

pub returns-clause-deleted : goal.returns-clause-deleted
returns-clause-deleted c = deleted_sound
