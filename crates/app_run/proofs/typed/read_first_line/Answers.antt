use Rattle.std.proofs.Common.{inr, arith, length-take}
use Rattle.app_run.proofs.typed.read_first_line.Goals as goal

pub returns-clause-came : goal.returns-clause-came
returns-clause-came g c = (
  c.loop-len.invariant.plain,
  inr (c.loop-len.invariant.came, inr (omega (arith, length-take c.loop-len.len c.loop-len.line, c.loop-len.invariant.room, c.loop-len.invariant.fits, c.loop-len-test.false))),
)
