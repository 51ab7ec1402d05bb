use Rattle.std.proofs.Common.{arith}
use Rattle.draft_changes.specs.DraftState.{now}
use Rattle.decide_waiting.proofs.Closed.{without}
use Rattle.decide_waiting.proofs.places.used_unwaited.Goals as goal

pub returns : goal.returns
returns g c =
    let state = now c.args.draft.now in
    omega (arith, c.saturating_sub.ensures, c.used.ensures, c.waiting_for.ensures, without state.lists state.moment c.args.quota.now)
