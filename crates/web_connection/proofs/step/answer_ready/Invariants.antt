use Rattle.std.proofs.Common.{◌≡◌, length}
use Rattle.web_connection.specs.Run.{AtTick, Progress, cursor}
use Rattle.web_connection.proofs.step.answer_ready.Given as goal

abbrev pub invariant-loop-failure : goal.invariant-loop-failure
invariant-loop-failure g l = record {
  done : Progress (AtTick g.T.Ticks.reads g.D.Handler.serves)
      (cursor l.fn.frames.left (g.T.Ticks.reported l.fn.ticks) l.fn.handler (g.W.Drain.taken l.fn.writer))
      (cursor l.frames.left (g.T.Ticks.reported l.ticks) l.handler (g.W.Drain.taken l.writer));
  clock : g.T.Ticks.failures l.ticks ≡ g.T.Ticks.failures l.fn.ticks;
  output : g.W.Drain.failures l.writer ≡ g.W.Drain.failures l.fn.writer;
}

abbrev pub decreases-loop-failure : goal.decreases-loop-failure
decreases-loop-failure g l = length l.frames.left
