use Rattle.std.proofs.Common.{◌&&◌, eqb, sym, ◌∙◌}
use Rattle.draft_overlay.proofs.Still.{none_put}
use Rattle.draft_overlay.proofs.overlay.Overlay.count_put.Goals as goal

pub returns-then-not-puts_positions-clause-value : goal.returns-then-not-puts_positions-clause-value
returns-then-not-puts_positions-clause-value g c =
    let none = sym c.puts_positions.ensures ∙ c.if-not-puts_positions.true in
    sym (none_put (λ p. eqb c.args.order p.order && g.T.PositionTest.passes c.args.test.now p) c.args.i c.args.self.now.changes none)
