use Rattle.std.proofs.Common.{arith, refl}
use Rattle.web_connection.specs.Run.{AtTick}
use Rattle.web_connection.proofs.RunLemmas.{unopened}
use Rattle.web_connection.proofs.run.run_connection.Goals as goal

pub returns-in_default : goal.returns-in_default
returns-in_default g c = record {
  leads = (c.args.handler, unopened (AtTick g.T.Ticks.reads g.D.Handler.serves) _);
  counted = (refl, refl, refl);
  calls = omega arith;
}

pub returns : goal.returns
returns g c = let run = c.run_stream.ensures in record { leads = (c.run_stream.new.handler, run.leads); counted = run.counted; calls = run.calls }
