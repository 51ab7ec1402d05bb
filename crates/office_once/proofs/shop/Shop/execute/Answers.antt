use Rattle.std.proofs.Common.{◌≡◌, ◌⊎◌, sym, ap, ◌∙◌, subst}
use Rattle.model_rows.specs.Change.{changes_applied}
use Rattle.model_rows.specs.Lists.{State}
use Rattle.model_invariant.specs.Sound.{IsSound}
use Rattle.model_answers.specs.ShopView.{ShopView, IsSame, kept_listed}
use Rattle.office_deliveries.specs.Shops.{Views, executed_at}
use Rattle.office_once.specs.OpenShop.{OpenShop}
use Rattle.office_once.proofs.ShopLemmas.{executed-views, executed-same, executed-leaves}
use Rattle.office_once.proofs.shop.Shop.execute.Goals as goal

pub returns-clause-done : goal.returns-clause-done
returns-clause-done g c = λ sure v views none.
    let tables_is : c.self.inside.tables ≡ c.args.self.now.tables = ap (λ (o : OpenShop g.row.T.Denot g.row.W.Denot). o.tables) c.self.view_is in
    executed-views g.T.Tables.holds (g.W.Wording.words c.args.self.now.wording) c.args.arrival c.args.at c.in-Ok.changes c.in-Ok.response (kept_listed c.to_keep.result) c.args.self.now.state
    c.in-Ok.ensures.done c.to_keep.ensures c.in-Ok.counts c.in-Ok.ensures.counts c.args.self.now.tables c.commit.new.self c.settle.new.self.state v views none
    (λ s ks held counted. c.in_ok-commit.ensures.all sure s ks (subst (λ (t : g.row.T.Denot). g.T.Tables.holds t s ks) (sym tables_is) held) counted)
    (c.settle.ensures.state ∙ (ap (λ (s : State). changes_applied c.in-Ok.changes c.args.at s) c.reserve.ensures.state
    ∙ ap (λ (o : OpenShop g.row.T.Denot g.row.W.Denot). changes_applied c.in-Ok.changes c.args.at o.state) c.self.view_is))

pub returns-clause-settled : goal.returns-clause-settled
returns-clause-settled g c = λ sure left may v views.
    let tables_is : c.self.inside.tables ≡ c.args.self.now.tables = ap (λ (o : OpenShop g.row.T.Denot g.row.W.Denot). o.tables) c.self.view_is in
    executed-same g.T.Tables.holds (g.W.Wording.words c.args.self.now.wording) c.args.arrival c.args.at c.in-Ok.changes c.in-Ok.response (kept_listed c.to_keep.result) c.args.self.now.state
    c.in-Ok.ensures.done c.to_keep.ensures c.in-Ok.counts c.in-Ok.ensures.counts c.args.self.now.tables left v views
    (λ s ks held counted. c.in_ok-commit.ensures.settled sure left may s ks (subst (λ (t : g.row.T.Denot). g.T.Tables.holds t s ks) (sym tables_is) held) counted)

pub returns-clause-crash : goal.returns-clause-crash
returns-clause-crash g c = λ left may.
    let tables_is : c.self.inside.tables ≡ c.args.self.now.tables = ap (λ (o : OpenShop g.row.T.Denot g.row.W.Denot). o.tables) c.self.view_is in
    subst (λ (t : g.row.T.Denot). g.T.Tables.may_leave t left
    ⊎ ((v : ShopView) → Views g.T.Tables.holds t c.args.self.now.state v → IsSame left (executed_at (g.W.Wording.words c.args.self.now.wording) c.args.arrival c.args.at v).0 × IsSound left.state))
    tables_is
    (executed-leaves g.T.Tables.holds (g.W.Wording.words c.args.self.now.wording) c.args.arrival c.args.at c.in-Ok.changes c.in-Ok.response (kept_listed c.to_keep.result) c.args.self.now.state
    c.in-Ok.ensures.done c.to_keep.ensures c.in-Ok.counts c.in-Ok.ensures.counts c.self.inside.tables left _ c.in-Ok.ensures.sound (c.commit.ensures.crash left may))
