use Rattle.std.proofs.Common.{rules}
use Rattle.office_once.proofs.ShopLemmas.{done-refused}
use Rattle.office_once.proofs.shop.Shop.decide.Goals as goal

pub returns-in-WriteRefused : goal.returns-in-WriteRefused
returns-in-WriteRefused g c = record {
  made = rw c.in-WriteRefused.is (done-refused (g.W.Wording.words c.args.self.now.wording) c.in-WriteRefused.response c.args.at c.args.draw c.args.self.now.state _ c.pass-drafted.ensures.passed);
  sound = search rules;
  deltas = search rules;
}
