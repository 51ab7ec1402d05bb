use Rattle.std.proofs.Common.{◌≡◌, ◌+◌, ℕ, List}
use Rattle.base_devices.specs.Reported.{Gives}
use Rattle.web_connection.specs.Run.{AtTick, Progress, InPieces, cursor}
use Rattle.web_connection.proofs.run.answer_all.Given as goal

abbrev pub invariant-loop-turn : goal.invariant-loop-turn
invariant-loop-turn g l = record {
  done : (bytes : List ℕ) × Gives (g.R.Source.left l.fn.reader) bytes (g.R.Source.left l.reader)
      × Progress (AtTick g.T.Ticks.reads g.D.Handler.serves)
      (cursor bytes (g.T.Ticks.reported l.fn.ticks) l.fn.handler (g.W.Drain.taken l.fn.writer))
      (cursor l.frames.left (g.T.Ticks.reported l.ticks) l.handler (g.W.Drain.taken l.writer))
      × InPieces bytes l.turn 0;
  clock : g.T.Ticks.failures l.ticks ≡ g.T.Ticks.failures l.fn.ticks;
  output : g.W.Drain.failures l.writer ≡ g.W.Drain.failures l.fn.writer;
  input : g.R.Source.failures l.reader ≡ g.R.Source.failures l.fn.reader;
  calls : g.R.Source.calls l.reader ≡ g.R.Source.calls l.fn.reader + l.turn;
}
