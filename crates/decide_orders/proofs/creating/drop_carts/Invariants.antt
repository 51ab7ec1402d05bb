use Rattle.std.proofs.Common.{◌≡◌, ◌++◌, drop, map}
use Rattle.draft_changes.specs.DraftState.{now, Extends}
use Rattle.model_rows.specs.declared.changes.Change.TheVariants.{DropCart}
use Rattle.model_rows.specs.Change.{without_carts}
use Rattle.decide_orders.proofs.creating.drop_carts.Given as goal

abbrev pub invariant-loop-id : goal.invariant-loop-id
invariant-loop-id g l = record {
  rest : without_carts (drop l.id-index l.ids) (now l.draft) ≡ without_carts l.ids (now l.fn.draft);
  changes : l.draft.log.changes ++ map DropCart (drop l.id-index l.ids) ≡ l.fn.draft.log.changes ++ map DropCart l.ids;
  extends : Extends l.fn.draft l.draft;
}
