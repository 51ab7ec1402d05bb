use Rattle.std.proofs.Common.{subst, List}
use Rattle.model_rows.specs.Lists.{State}
use Rattle.model_invariant.specs.Sound.{IsSound}
use Rattle.model_commands.specs.declared.carts.Outcome.{Outcome}
use Rattle.decide_orders.proofs.Added.{added_sound}
use Rattle.decide_orders.proofs.BulkSound.{many_is, all_sound}
use Rattle.decide_orders.proofs.Dropped.{dropped_sound}
use Rattle.decide_orders.proofs.laws.carts_keep_sound.Goals as goal

pub returns-clause-added : goal.returns-clause-added
returns-clause-added c = λ added fit sixteen sound. added_sound added.request added.draw added.before added.after added.row fit sixteen sound added.done

pub returns-clause-many : goal.returns-clause-many
returns-clause-many c = λ entries draw before after outcomes fit sixteen sound h. subst (λ (m : State × List Outcome). IsSound m.0) (many_is entries draw before (after, outcomes) h) (all_sound entries draw before fit sixteen sound)

pub returns-clause-dropped : goal.returns-clause-dropped
returns-clause-dropped c = λ id before after sound h. dropped_sound id before after sound h
