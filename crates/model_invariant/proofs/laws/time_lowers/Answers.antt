use Rattle.model_rows.proofs.Headroom.{headroom_later}
use Rattle.model_rows.proofs.Time.{time_lowers_usage}
use Rattle.model_invariant.proofs.laws.time_lowers.Goals as goal

pub returns : goal.returns
returns c = λ state quota at later sound le le'. time_lowers_usage state.lists quota at later le' sound.ids.vouchers.in_order (headroom_later state.moment at state.lists le sound.headroom)
