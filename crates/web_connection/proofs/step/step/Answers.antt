use Rattle.web_connection.specs.Run.{AtTick}
use Rattle.web_connection.proofs.RunLemmas.{takes_frame, fault_done, fault_broken, clock_broken, message_ends, message_goes, message_broken}
use Rattle.web_connection.proofs.step.step.Goals as goal
use Rattle.web_connection.proofs.step.step.Goals.{then-closes, else-closes}

pub returns-in-Ok-clause-leads : goal.returns-in-Ok-clause-leads
returns-in-Ok-clause-leads g c =
    let next = rw c.in-Some-Err.field-0-is at c.in-Some-Err.ensures in
    fault_done (AtTick g.T.Ticks.reads g.D.Handler.serves) _ _ _ _ _ _ c.in-Some-Err.fault next.0 c.in-Ok.ensures.0

pub returns-in-Some-Err-clause-leads : goal.returns-in-Some-Err-clause-leads
returns-in-Some-Err-clause-leads g c =
    let next = rw c.in-Some-Err.field-0-is at c.in-Some-Err.ensures in
    let part = c.in-Err.ensures.0 in
    fault_broken (AtTick g.T.Ticks.reads g.D.Handler.serves) _ _ _ _ _ _ c.in-Some-Err.fault part.0 part.1 next.0 part.2 part.3

pub returns-in_default-tick-clause-leads : goal.returns-in_default-tick-clause-leads
returns-in_default-tick-clause-leads g c =
    let next = rw c.in-Some-Ok.field-0-is at c.in-Some-Ok.ensures in
    let takes = takes_frame c.args.frames.now.left c.next.new.self.left c.in-Some.frame _ c.in-Some.ensures (next.0, next.1, next.2) in
    clock_broken (AtTick g.T.Ticks.reads g.D.Handler.serves) _ _ _ _ _ _ c.in-Some.frame takes c.in_default-tick.ensures.kept

pub returns-in-Ok-write_answer-clause-leads : goal.returns-in-Ok-write_answer-clause-leads
returns-in-Ok-write_answer-clause-leads g c =
    let next = rw c.in-Some-Ok.field-0-is at c.in-Some-Ok.ensures in
    let takes = takes_frame c.args.frames.now.left c.next.new.self.left c.in-Some.frame _ c.in-Some.ensures (next.0, next.1, next.2) in
    elim c.if-closes.branch [
      | then-closes w ↦
          rw w.result-is (message_ends (AtTick g.T.Ticks.reads g.D.Handler.serves) _ _ _ _ _ _ _ _ c.in-Some.frame c.in-Ok-tick.tick c.serve-answer.result _ takes c.in-Ok-tick.ensures.reported (c.in-Ok-tick.ensures.read, c.serve-answer.ensures) c.in-Ok-write_answer.ensures.0 c.closes-closes.ensures w.if-closes.true)
      | else-closes w ↦
          rw w.result-is (message_goes (AtTick g.T.Ticks.reads g.D.Handler.serves) _ _ _ _ _ _ _ _ c.in-Some.frame c.in-Ok-tick.tick c.serve-answer.result _ takes c.in-Ok-tick.ensures.reported (c.in-Ok-tick.ensures.read, c.serve-answer.ensures) c.in-Ok-write_answer.ensures.0 c.closes-closes.ensures w.if-closes.false, next.3)
    ]

pub returns-clause-leads : goal.returns-clause-leads
returns-clause-leads g c =
    let next = rw c.in-Some-Ok.field-0-is at c.in-Some-Ok.ensures in
    let takes = takes_frame c.args.frames.now.left c.next.new.self.left c.in-Some.frame _ c.in-Some.ensures (next.0, next.1, next.2) in
    let part = c.in-Err-write_answer.ensures.0 in
    message_broken (AtTick g.T.Ticks.reads g.D.Handler.serves) _ _ _ _ _ _ _ _ c.in-Some.frame c.in-Ok-tick.tick c.serve-answer.result _ part.0 part.1 takes c.in-Ok-tick.ensures.reported (c.in-Ok-tick.ensures.read, c.serve-answer.ensures) part.2 part.3 c.closes-closes.ensures
