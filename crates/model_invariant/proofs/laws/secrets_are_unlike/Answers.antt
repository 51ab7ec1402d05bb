use Rattle.std.proofs.Common.{arith}
use Rattle.model_invariant.proofs.Secrets.{secrets_unlike}
use Rattle.model_invariant.proofs.laws.secrets_are_unlike.Goals as goal

pub returns : goal.returns
returns c = λ state sound. secrets_unlike state.lists.orders state.next.order state.lists.positions (omega (arith, sound.range.next_ids.orders.within)) sound.ids.orders.below sound.ordered
