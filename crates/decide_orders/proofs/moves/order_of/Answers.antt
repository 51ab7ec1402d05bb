use Rattle.std.proofs.Common.{rules}
use Rattle.draft_changes.specs.DraftState.{now}
use Rattle.decide_orders.proofs.MoveLemmas.{found_id}
use Rattle.decide_orders.proofs.moves.order_of.Goals as goal

pub returns-in_ok-copy-in-Some-clause-id : goal.returns-in_ok-copy-in-Some-clause-id
returns-in_ok-copy-in-Some-clause-id g c = found_id c.args.number (now c.args.draft.now).lists.orders c.in_ok-copy-in-Some.field-0 (search rules)
