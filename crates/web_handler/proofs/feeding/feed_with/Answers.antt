use Rattle.std.proofs.Common.{ℕ, subst}
use Rattle.web_connection.specs.Run.{CountedAll}
use Rattle.web_handler.proofs.FedLemmas.{ends_ticks}
use Rattle.web_handler.proofs.feeding.feed_with.Goals as goal

pub returns : goal.returns
returns g c =
    let run = c.run_office.ensures in
    let ticks = c.run_office.new.ticks in
    record {
      count = ticks.reported;
      clock = ticks.failures;
      house = run.leads.0;
      leads = run.leads.1;
      ends_ticks = ends_ticks c.run_office.result ticks.reported _ _ c.new.ensures ticks.at_end run.counted;
      counted = subst (λ (none : ℕ). CountedAll c.run_office.result
          (record { clock = none; output = g.W.Drain.failures c.args.writer.now; input = g.R.Source.failures c.args.reader.now; calls = g.R.Source.calls c.args.reader.now })
          (record { clock = ticks.failures; output = g.W.Drain.failures c.run_office.new.writer; input = g.R.Source.failures c.run_office.new.reader; calls = g.R.Source.calls c.run_office.new.reader }))
          c.new.ensures run.counted;
      calls = run.calls;
    }
