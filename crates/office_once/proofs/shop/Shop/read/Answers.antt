use Rattle.office_once.proofs.ShopLemmas.{stands-same}
use Rattle.office_deliveries.proofs.Running.{reads-on}
use Rattle.office_once.proofs.shop.Shop.read.Goals as goal

pub returns-clause-stands : goal.returns-clause-stands
returns-clause-stands g c =
    stands-same g.T.Tables.holds (g.W.Wording.words c.args.self.now.wording) c.args.self.now.tables c.args.self.now.state c.args.arrival c.shown.result c.shown.ensures.answered

pub returns-clause-running : goal.returns-clause-running
returns-clause-running g c = λ r running.
    reads-on g.T.Tables.holds g.T.Tables.may_leave (g.W.Wording.words c.args.self.now.wording) c.args.arrival c.shown.result c.args.self.now.tables c.args.self.now.state r c.requires c.shown.ensures.answered running
