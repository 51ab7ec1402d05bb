use Rattle.std.proofs.Common.{sym, subst, OnOk}
use Rattle.model_rows.specs.declared.changes.Change.{Change}
use Rattle.draft_overlay.specs.Logs.{rows_of, IsSale}
use Rattle.book_usage.specs.Shares.{cart_share, waiting_share}
use Rattle.draft_counts.specs.Counts.{IsMore}
use Rattle.draft_counts.specs.CountDelta.{come_of, gone_of}
use Rattle.draft_counts.proofs.Unsold.{unsold}
use Rattle.draft_counts.proofs.shift.count_change.Goals as goal

pub returns-in-PutVoucher-clause-more : goal.returns-in-PutVoucher-clause-more
returns-in-PutVoucher-clause-more g c =
    let lists = rows_of c.args.count_base.now.overlay.now in
    subst (λ (change : Change). OnOk c.with_voucher.result (IsMore (come_of lists c.args.count_base.now.at change) (gone_of lists c.args.count_base.now.at change) c.args.count_base.now.catalogue.now.lists.quotas c.args.counts.now c.with_voucher.new.counts)) (sym c.in-PutVoucher.is) c.with_voucher.ensures.more

pub returns-in-DropVoucher-clause-more : goal.returns-in-DropVoucher-clause-more
returns-in-DropVoucher-clause-more g c =
    let lists = rows_of c.args.count_base.now.overlay.now in
    subst (λ (change : Change). OnOk c.with_voucher-in-DropVoucher.result (IsMore (come_of lists c.args.count_base.now.at change) (gone_of lists c.args.count_base.now.at change) c.args.count_base.now.catalogue.now.lists.quotas c.args.counts.now c.with_voucher-in-DropVoucher.new.counts)) (sym c.in-DropVoucher.is) c.with_voucher-in-DropVoucher.ensures.more

pub returns-in-PutCart-clause-more : goal.returns-in-PutCart-clause-more
returns-in-PutCart-clause-more g c =
    let lists = rows_of c.args.count_base.now.overlay.now in
    subst (λ (change : Change). OnOk c.with_cart.result (IsMore (come_of lists c.args.count_base.now.at change) (gone_of lists c.args.count_base.now.at change) c.args.count_base.now.catalogue.now.lists.quotas c.args.counts.now c.with_cart.new.counts)) (sym c.in-PutCart.is) c.with_cart.ensures.more

pub returns-in-DropCart-clause-more : goal.returns-in-DropCart-clause-more
unfolding cart_share
returns-in-DropCart-clause-more g c =
    let lists = rows_of c.args.count_base.now.overlay.now in
    subst (λ (change : Change). OnOk c.with_cart-in-DropCart.result (IsMore (come_of lists c.args.count_base.now.at change) (gone_of lists c.args.count_base.now.at change) c.args.count_base.now.catalogue.now.lists.quotas c.args.counts.now c.with_cart-in-DropCart.new.counts)) (sym c.in-DropCart.is) c.with_cart-in-DropCart.ensures.more

pub returns-in-PutWaiting-clause-more : goal.returns-in-PutWaiting-clause-more
returns-in-PutWaiting-clause-more g c =
    let lists = rows_of c.args.count_base.now.overlay.now in
    subst (λ (change : Change). OnOk c.with_waiting.result (IsMore (come_of lists c.args.count_base.now.at change) (gone_of lists c.args.count_base.now.at change) c.args.count_base.now.catalogue.now.lists.quotas c.args.counts.now c.with_waiting.new.counts)) (sym c.in-PutWaiting.is) c.with_waiting.ensures.more

pub returns-in-DropWaiting-clause-more : goal.returns-in-DropWaiting-clause-more
unfolding waiting_share
returns-in-DropWaiting-clause-more g c =
    let lists = rows_of c.args.count_base.now.overlay.now in
    subst (λ (change : Change). OnOk c.with_waiting-in-DropWaiting.result (IsMore (come_of lists c.args.count_base.now.at change) (gone_of lists c.args.count_base.now.at change) c.args.count_base.now.catalogue.now.lists.quotas c.args.counts.now c.with_waiting-in-DropWaiting.new.counts)) (sym c.in-DropWaiting.is) c.with_waiting-in-DropWaiting.ensures.more

pub returns-in-PutOrder-clause-more : goal.returns-in-PutOrder-clause-more
returns-in-PutOrder-clause-more g c =
    let lists = rows_of c.args.count_base.now.overlay.now in
    subst (λ (change : Change). OnOk c.with_order.result (IsMore (come_of lists c.args.count_base.now.at change) (gone_of lists c.args.count_base.now.at change) c.args.count_base.now.catalogue.now.lists.quotas c.args.counts.now c.with_order.new.counts)) (sym c.in-PutOrder.is) c.with_order.ensures.more

pub returns-in-PutPosition-clause-more : goal.returns-in-PutPosition-clause-more
returns-in-PutPosition-clause-more g c =
    let lists = rows_of c.args.count_base.now.overlay.now in
    subst (λ (change : Change). OnOk c.with_position.result (IsMore (come_of lists c.args.count_base.now.at change) (gone_of lists c.args.count_base.now.at change) c.args.count_base.now.catalogue.now.lists.quotas c.args.counts.now c.with_position.new.counts)) (sym c.in-PutPosition.is) c.with_position.ensures.more

pub returns-in-PutCheckin-clause-more : goal.returns-in-PutCheckin-clause-more
returns-in-PutCheckin-clause-more g c =
    let lists = rows_of c.args.count_base.now.overlay.now in
    subst (λ (change : Change). OnOk c.with_checkin.result (IsMore (come_of lists c.args.count_base.now.at change) (gone_of lists c.args.count_base.now.at change) c.args.count_base.now.catalogue.now.lists.quotas c.args.counts.now c.with_checkin.new.counts)) (sym c.in-PutCheckin.is) c.with_checkin.ensures.more

pub with_checkin-requires : goal.with_checkin-requires
with_checkin-requires g c = record { new = subst (λ (change : Change). IsSale change (rows_of c.args.count_base.now.overlay.now)) c.in-PutCheckin.is c.requires.sale }

pub returns-in_default-clause-more : goal.returns-in_default-clause-more
returns-in_default-clause-more g c = let d = c.in_default in unsold (rows_of c.args.count_base.now.overlay.now) c.args.count_base.now.at c.args.count_base.now.catalogue.now.lists.quotas c.args.counts.now c.args.change.now d.not-PutVoucher d.not-PutCart d.not-PutOrder d.not-PutPosition d.not-PutWaiting d.not-DropVoucher d.not-DropCart d.not-DropWaiting d.not-PutCheckin
