use Rattle.std.proofs.Common.{refl, ◌∙◌}
use Rattle.web_connection.specs.Run.{AtTick}
use Rattle.web_connection.proofs.RunLemmas.{progress_none, progress_more, finished_more, broken_more}
use Rattle.web_connection.proofs.step.answer_ready.Goals as goal

pub loop-failure-init : goal.loop-failure-init
loop-failure-init g c = record { done = progress_none (AtTick g.T.Ticks.reads g.D.Handler.serves) _ _ refl; clock = refl; output = refl }

pub returns-in-Ok-Ends-clause-leads : goal.returns-in-Ok-Ends-clause-leads
returns-in-Ok-Ends-clause-leads g c =
    let e = rw c.in-Ok-Ends.field-0-is at c.in-Ok-Ends.ensures in
    finished_more (AtTick g.T.Ticks.reads g.D.Handler.serves) _ _ _ c.loop-failure.invariant.done e.leads

pub loop-failure-preserved : goal.loop-failure-preserved
loop-failure-preserved g c =
    let e = rw c.in-Ok-Goes.field-0-is at c.in-Ok-Goes.ensures in
    record {
      done = progress_more (AtTick g.T.Ticks.reads g.D.Handler.serves) _ _ _ c.loop-failure.invariant.done e.leads.0;
      clock = e.counted.0 ∙ c.loop-failure.invariant.clock;
      output = e.counted.1 ∙ c.loop-failure.invariant.output;
    }

pub returns-in-Err-clause-leads : goal.returns-in-Err-clause-leads
returns-in-Err-clause-leads g c = broken_more (AtTick g.T.Ticks.reads g.D.Handler.serves) _ _ _ _ c.loop-failure.invariant.done c.in-Err.ensures.leads
