use Rattle.draft_changes.proofs.CanCome.{can_drop_cart}
use Rattle.draft_changes.proofs.draft.Draft.drop_cart.Goals as goal

pub change-requires : goal.change-requires
change-requires g c = can_drop_cart c.args.self.now.moment c.args.self.now.log c.recall_invariant.ensures.headroom c.args.id c.recall_invariant.ensures.carts
