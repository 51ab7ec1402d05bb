use Rattle.std.proofs.Common.{subst}
use Rattle.web_arrivals.specs.Deliveries.{Running, IsRunning, after_act}
use Rattle.web_arrivals.specs.HandlerView.{HandlerView, reply_worded}
use Rattle.web_handler.proofs.handler.ShopHandler.carry_out.Goals as goal

pub returns-then-is_write-clause-running : goal.returns-then-is_write-clause-running
returns-then-is_write-clause-running g c = λ sure.
    subst (λ (d : HandlerView g.row.T.Denot). (r : Running) → IsRunning (reply_worded d) g.T.Tables.holds g.T.Tables.may_leave d.tables d.state r
    → IsRunning (reply_worded d) g.T.Tables.holds g.T.Tables.may_leave c.act.new.self.tables c.act.new.self.state (after_act (reply_worded d) c.args.arrival c.act.result r))
    c.self.view_is (λ r running. (c.act.ensures.running sure r running).0)
