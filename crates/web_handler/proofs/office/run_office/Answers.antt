use Rattle.std.proofs.Common.{arith, refl, subst}
use Rattle.web_connection.specs.Run.{RunLeads, devices_at}
use Rattle.web_connection.proofs.FollowLemmas.{run_whenever}
use Rattle.web_connection.proofs.RunLemmas.{unopened}
use Rattle.web_arrivals.specs.HandlerView.{HandlerView, handler_with, trait_meaning}
use Rattle.web_arrivals.specs.Served.{Serves}
use Rattle.web_handler.proofs.office.run_office.Goals as goal

pub returns-in_default : goal.returns-in_default
returns-in_default g c =
    let first = handler_with c.args.tables c.args.office.organizer c.args.office.event c.args.office.state in record {
      leads = (first, unopened (Serves (trait_meaning g.T.Tables)) _);
      counted = (refl, refl, refl);
      calls = omega arith;
    }

pub returns : goal.returns
returns g c =
    let run = c.run_connection.ensures in
    let at = (λ (first : HandlerView g.row.T.Denot). RunLeads (Serves (trait_meaning g.T.Tables))
    (devices_at g.R.Source g.K.Ticks g.W.Drain c.args.reader.now c.args.ticks.now first c.args.writer.now)
    (devices_at g.R.Source g.K.Ticks g.W.Drain c.run_connection.new.reader c.run_connection.new.ticks run.leads.0 c.run_connection.new.writer)
    c.run_connection.result) in record {
      leads = (run.leads.0, subst at c.in-Ok.ensures (run_whenever g.K.Ticks.reads (Serves (trait_meaning g.T.Tables)) _ _ _ run.leads.1));
      counted = run.counted;
      calls = run.calls;
    }
