use Rattle.office_once.proofs.ShopLemmas.{stands-from}
use Rattle.office_deliveries.proofs.Running.{runs-on}
use Rattle.office_once.proofs.shop.Shop.act.Goals as goal

pub returns-clause-stands : goal.returns-clause-stands
returns-clause-stands g c = λ sure.
    stands-from g.T.Tables.holds (g.W.Wording.words c.args.self.now.wording) c.args.self.now.tables c.write-answer.new.self.tables c.args.self.now.state c.write-answer.new.self.state c.args.arrival c.write-answer.result
    (c.write-answer.ensures.answered sure)

pub returns-clause-running : goal.returns-clause-running
returns-clause-running g c = λ sure r running.
    runs-on g.T.Tables.holds g.T.Tables.may_leave (g.W.Wording.words c.args.self.now.wording) c.args.arrival c.requires c.args.self.now.tables c.write-answer.new.self.tables c.args.self.now.state c.write-answer.new.self.state r running
    (c.write-answer.ensures.crash sure) c.write-answer.result c.recall_invariant.ensures (c.write-answer.ensures.answered sure r.shop running.views) (c.write-answer.ensures.settled sure)
