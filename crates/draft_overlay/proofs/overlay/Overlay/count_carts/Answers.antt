use Rattle.std.proofs.Common.{sym, ap, ◌∙◌, count_by}
use Rattle.draft_overlay.proofs.Still.{carts_still}
use Rattle.draft_overlay.proofs.overlay.Overlay.count_carts.Goals as goal

pub returns-then-not-touches_carts-clause-value : goal.returns-then-not-touches_carts-clause-value
returns-then-not-touches_carts-clause-value g c =
    let log = c.args.self.now in
    let none = sym c.touches_carts.ensures ∙ c.if-not-touches_carts.true in
    c.requires.before ∙ sym (ap (count_by (g.T.CartCondition.passes c.args.test.now)) (carts_still log.changes log.base none))
