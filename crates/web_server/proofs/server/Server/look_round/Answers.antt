use Rattle.std.proofs.Common.{List, refl, ◌∙◌}
use Rattle.web_server.specs.declared.timeouts.Timer.{Timer}
use Rattle.web_server.proofs.GivingWayLemmas.{ended_more, ended_none}
use Rattle.web_server.proofs.RoundLemmas.{clears_more, clears_none}
use Rattle.web_server.proofs.server.Server.look_round.Goals as goal

pub loop-slot-init : goal.loop-slot-init
loop-slot-init g c = (clears_none _ _ refl, ended_none _ _ _, refl, refl, c.look_round.ensures.listens, c.look_round.ensures.came)

pub loop-slot-preserved : goal.loop-slot-preserved
loop-slot-preserved g c =
    let was = c.loop-slot.invariant in
    let ends = c.end_late.ensures in
    (clears_more _ _ _ was.0 ends.clears, ended_more _ _ _ _ _ _ _ was.1 was.2 ends.ends, ◌∙◌ {A = List Timer} ends.timers was.2, ends.left ∙ was.3, ends.listens ∙ was.4, ends.came ∙ was.5)
