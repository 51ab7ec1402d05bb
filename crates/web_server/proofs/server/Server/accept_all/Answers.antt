use Rattle.std.proofs.Common.{arith, refl, ◌∙◌}
use Rattle.web_server.proofs.RoundLemmas.{clears_none, reassigns_clears, reassigns_more}
use Rattle.web_server.proofs.server.Server.accept_all.Goals as goal

pub loop-init : goal.loop-init
loop-init g c = (reassigns_clears _ _ _ _ _ _ (clears_none _ _ refl) (omega arith) refl, refl)

pub returns-in-Err-clause-reassigns : goal.returns-in-Err-clause-reassigns
returns-in-Err-clause-reassigns g c = reassigns_more _ _ _ _ _ _ _ _ _ c.loop.invariant.0 c.accept_one.ensures.reassigns

pub loop-preserved : goal.loop-preserved
loop-preserved g c = (reassigns_more _ _ _ _ _ _ _ _ _ c.loop.invariant.0 c.accept_one.ensures.reassigns, c.accept_one.ensures.listens ∙ c.loop.invariant.1)

pub returns-in-Ok-false-clause-reassigns : goal.returns-in-Ok-false-clause-reassigns
returns-in-Ok-false-clause-reassigns g c = reassigns_more _ _ _ _ _ _ _ _ _ c.loop.invariant.0 c.accept_one.ensures.reassigns
