use Rattle.std.proofs.Common.{◌≡◌, ◌++◌, drop}
use Rattle.draft_changes.specs.DraftState.{now, Extends}
use Rattle.decide_orders.specs.Steps.{each_expired, each_expiry}
use Rattle.decide_orders.proofs.periodic.expire_each.Given as goal

-- what was done, and what is left to be done
abbrev pub invariant-loop-id : goal.invariant-loop-id
invariant-loop-id g l = record {
  rest : each_expired (drop l.id-index l.ids) (now l.draft) ≡ each_expired l.ids (now l.fn.draft);
  changes : l.draft.log.changes ++ each_expiry (drop l.id-index l.ids) (now l.draft).lists.orders ≡ l.fn.draft.log.changes ++ each_expiry l.ids (now l.fn.draft).lists.orders;
  extends : Extends l.fn.draft l.draft;
}
