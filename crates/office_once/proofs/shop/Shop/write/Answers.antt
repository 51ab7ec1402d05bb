use Rattle.std.proofs.Common.{◌⊎◌, rules, sym, ap, ◌∙◌, subst}
use Rattle.model_rows.specs.Lists.{State}
use Rattle.model_answers.specs.ShopView.{ShopView, IsSame}
use Rattle.model_invariant.specs.Sound.{IsSound}
use Rattle.office_deliveries.specs.Shops.{Views, executed_at, moment_at}
use Rattle.office_once.proofs.ShopLemmas.{settled-same, none-held, crash-same}
use Rattle.office_once.proofs.shop.Shop.write.Goals as goal

pub returns-in-Ok : goal.returns-in-Ok
returns-in-Ok g c = record {
  wording = search rules;
  office = search rules;
  sure = search rules;
  house = search rules;
  answered = search rules;
  crash = λ sure left may.
      let held = rw c.in-Ok-None.field-0-is at c.in-Ok-None.ensures in
      let before = c.execute.ensures.sure sure in
      crash-same g.T.Tables.holds g.T.Tables.may_leave (g.W.Wording.words c.args.self.now.wording) c.args.arrival c.moment_at-at.result c.args.self.now.tables c.held.new.self.tables c.execute.new.self.tables
      c.args.self.now.state c.held.new.self.state c.requires c.moment_at-at.ensures.at (held.found before) (held.same before) held.crash left
      (subst (λ (w : _). g.T.Tables.may_leave c.held.new.self.tables left ⊎ ((v : ShopView) → Views g.T.Tables.holds c.held.new.self.tables c.held.new.self.state v → IsSame left (executed_at (g.W.Wording.words w) c.args.arrival c.moment_at-at.result v).0 × IsSound left.state))
      held.wording (c.execute.ensures.crash left may));
  settled = λ sure v views executes left may.
      let before = c.in-Ok.ensures.sure sure in
      let held = rw c.in-Ok-None.field-0-is at c.in-Ok-None.ensures in
      let none = none-held c.args.arrival c.moment_at-at.result v.kept (sym (held.found before v views)) in
      let now = c.moment_at-at.ensures.at ∙ ap (λ (s : State). moment_at c.args.arrival.clock s) views.state_is in
      settled-same g.T.Tables.may_leave (g.W.Wording.words c.args.self.now.wording) c.args.arrival c.moment_at-at.result c.execute.new.self.tables v now c.requires none
      (λ left may. subst (λ (w : _). IsSame left (executed_at (g.W.Wording.words w) c.args.arrival c.moment_at-at.result v).0) held.wording (c.in-Ok.ensures.settled sure left may v (held.same before v views)))
      left may;
}

pub returns-in-Err-execute : goal.returns-in-Err-execute
returns-in-Err-execute g c = record {
  wording = search rules;
  office = search rules;
  sure = search rules;
  house = search rules;
  answered = search rules;
  crash = λ sure left may.
      let held = rw c.in-Ok-None.field-0-is at c.in-Ok-None.ensures in
      let before = c.execute.ensures.sure sure in
      crash-same g.T.Tables.holds g.T.Tables.may_leave (g.W.Wording.words c.args.self.now.wording) c.args.arrival c.moment_at-at.result c.args.self.now.tables c.held.new.self.tables c.execute.new.self.tables
      c.args.self.now.state c.held.new.self.state c.requires c.moment_at-at.ensures.at (held.found before) (held.same before) held.crash left
      (subst (λ (w : _). g.T.Tables.may_leave c.held.new.self.tables left ⊎ ((v : ShopView) → Views g.T.Tables.holds c.held.new.self.tables c.held.new.self.state v → IsSame left (executed_at (g.W.Wording.words w) c.args.arrival c.moment_at-at.result v).0 × IsSound left.state))
      held.wording (c.execute.ensures.crash left may));
  settled = search rules;
}
