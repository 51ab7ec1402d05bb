use Rattle.std.proofs.Common.{Bool, option_copied, ap₂}
use Rattle.model_catalogue.specs.declared.rows.Quota.{Quota}
use Rattle.model_rows.specs.Usage.{blocks_if}
use Rattle.model_rows.specs.Asked.{held_in}
use Rattle.draft_overlay.specs.Logs.{rows_of}
use Rattle.draft_counts.specs.CountDelta.{voucher_counts, left_of}
use Rattle.draft_counts.proofs.Reached.{no_other_more}
use Rattle.draft_counts.proofs.shift.VoucherTurnShare.touch.Goals as goal

pub returns-clause-come : goal.returns-clause-come
returns-clause-come g c q other =
    let turn = c.args.self.now in
    let come = no_other_more c.touch_voucher.new.ids.items c.touch_voucher-2.new.ids.items c.args.catalogue.now.lists (λ (r : Quota). blocks_if turn.at r (option_copied turn.come)) c.in_ok-touch_voucher-2.ensures.keeps (c.in_ok-touch_voucher.ensures.more turn.at) q other in
    ap₂ (λ (a b : Bool). voucher_counts a b (left_of turn.redeemed (option_copied turn.come)) (held_in turn.at q turn.id (rows_of turn.overlay.now))) come (c.in_ok-touch_voucher-2.ensures.more turn.at q other)

pub returns-clause-gone : goal.returns-clause-gone
returns-clause-gone g c q other =
    let turn = c.args.self.now in
    let come = no_other_more c.touch_voucher.new.ids.items c.touch_voucher-2.new.ids.items c.args.catalogue.now.lists (λ (r : Quota). blocks_if turn.at r (option_copied turn.come)) c.in_ok-touch_voucher-2.ensures.keeps (c.in_ok-touch_voucher.ensures.more turn.at) q other in
    ap₂ (λ (a b : Bool). voucher_counts a b (left_of turn.redeemed (option_copied turn.gone)) (held_in turn.at q turn.id (rows_of turn.overlay.now))) (c.in_ok-touch_voucher-2.ensures.more turn.at q other) come
