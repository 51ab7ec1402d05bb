use Rattle.std.proofs.Common.{refl, subst, sym}
use Rattle.web_http.specs.Messages.{HasNone}
use Rattle.web_connection.specs.Run.{AtTick, Cursor}
use Rattle.web_connection.proofs.RunLemmas.{finished_all, progress_none}
use Rattle.web_connections.proofs.connection.Connection.take_step.Goals as goal

pub returns-in-Ok-Waits-clause-replies : goal.returns-in-Ok-Waits-clause-replies
returns-in-Ok-Waits-clause-replies g c =
    let leads = rw c.in-Ok-Waits.field-0-is at c.in-Ok-Waits.ensures.leads in
    rw (← c.self.view_is) (record {
      went = (
        progress_none (AtTick g.T.Ticks.reads g.D.Handler.serves) _ _ leads.1,
        subst (λ (q : Cursor g.row.D.Denot). HasNone q.left) (sym leads.1) leads.0,
      );
      coming = refl;
      gone = refl;
      takes = λ is. (cc);
    })

pub returns-in-Ok-Goes-clause-replies : goal.returns-in-Ok-Goes-clause-replies
returns-in-Ok-Goes-clause-replies g c =
    let leads = rw c.in-Ok-Goes.field-0-is at c.in-Ok-Goes.ensures.leads in
    rw (← c.self.view_is) (record { went = leads.0; coming = refl; gone = refl; takes = λ is. leads.1 })

pub returns-in-Ok-Ends-clause-replies : goal.returns-in-Ok-Ends-clause-replies
returns-in-Ok-Ends-clause-replies g c =
    let leads = rw c.in-Ok-Ends.field-0-is at c.in-Ok-Ends.ensures.leads in
    rw (← c.self.view_is) (record {
      went = finished_all (AtTick g.T.Ticks.reads g.D.Handler.serves) _ _ _ leads;
      coming = refl;
      gone = refl;
      takes = λ is. (cc);
    })

pub returns-in-Err-clause-replies : goal.returns-in-Err-clause-replies
returns-in-Err-clause-replies g c = rw (← c.self.view_is) (record { went = (_, c.in-Err.ensures.leads); coming = refl; gone = refl; takes = λ is. (cc) })
