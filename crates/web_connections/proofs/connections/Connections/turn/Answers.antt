use Rattle.std.proofs.Common.{◌∙◌, None, Option, refl, subst, arith}
use Rattle.std.proofs.lemmas.List.{get_or_default}
use Rattle.web_connection.specs.Run.{AtTick}
use Rattle.web_connections.specs.Contexts.{between_at}
use Rattle.web_connections.specs.Connections.{Caller, TakesTurn}
use Rattle.web_connections.proofs.connections.Connections.turn.Goals as goal

pub returns : goal.returns
returns g c =
    let items = c.self.inside.slots.items in
    let S = AtTick g.T.Ticks.reads g.D.Handler.serves in
    let from = between_at g.T.Ticks c.args.context.now in
    let to = between_at g.T.Ticks c.turn.new.context in
    rw (← c.self.view_is) (record {
      keeps = c.turn.ensures.keeps;
      turn = (
        c.turn.new.self,
        subst (λ (old : Option Caller). TakesTurn S from to old c.turn.new.self)
            (c.index_mut-found.ensures.value ∙ get_or_default items c.args.slot _ None (omega (arith, c.if-slot-len.false, c.len.ensures)))
            c.turn.ensures.turn,
        refl,
      );
    })
