use Rattle.draft_changes.proofs.CanCome.{can_put_voucher}
use Rattle.draft_changes.proofs.draft.Draft.put_voucher.Goals as goal

pub change-requires : goal.change-requires
change-requires g c = can_put_voucher c.args.self.now.moment c.args.self.now.log c.recall_invariant.ensures.headroom c.args.row c.requires
