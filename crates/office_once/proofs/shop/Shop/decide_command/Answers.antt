use Rattle.office_once.proofs.ShopLemmas.{done-command}
use Rattle.office_once.proofs.shop.Shop.decide_command.Goals as goal

pub returns : goal.returns
returns g c = record {
  made =
      rw (← c.self.view_is) (done-command (g.W.Wording.words c.self.inside.wording) c.args.command.now c.args.at c.args.draw c.self.inside.office.state _ c.in_ok-drafted.reply c.in_ok-response.response
      c.in_ok-drafted.ensures.step.step c.in_ok-response.ensures);
  sound = rw (← c.self.view_is) c.in_ok-drafted.ensures.sound;
  deltas = rw (← c.self.view_is) c.in_ok-drafted.ensures.step.deltas;
}
