use Rattle.draft_changes.specs.DraftState.{now}
use Rattle.model_rows.proofs.OrderHeadroom.{headroom_kept_order}
use Rattle.decide_orders.proofs.moves.put.Goals as goal

pub put_order-requires : goal.put_order-requires
put_order-requires g c =
    let state = now c.args.draft.now in
    headroom_kept_order c.args.row state.lists state.moment c.requires.kept c.requires.fresh.sound.headroom
