use Rattle.std.proofs.Common.{sym, subst}
use Rattle.model_invariant.specs.Sound.{IsSound}
use Rattle.office_step.proofs.SoundSteps.{expired_sound, dropped_carts_sound}
use Rattle.office_other.proofs.waiting.work_in.Goals as goal

pub send_all-requires-clause-sound : goal.send_all-requires-clause-sound
send_all-requires-clause-sound g c =
    subst IsSound (sym c.in_ok-deleted.ensures.done) (dropped_carts_sound _ (subst IsSound (sym c.in_ok-expired.ensures.done) (expired_sound _ c.requires.sound)))
