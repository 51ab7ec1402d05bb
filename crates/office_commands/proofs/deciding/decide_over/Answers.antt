use Rattle.std.proofs.lemmas.Result.{IfOk-weaker}
use Rattle.office_commands.proofs.deciding.decide_over.Goals as goal

pub returns-in-AddItem : goal.returns-in-AddItem
returns-in-AddItem g c = rw c.in-AddItem.is (IfOk-weaker c.add_item.result _ _ (λ r h. h c.args.at c.args.draw) c.add_item.ensures)

pub returns-in-ChangeItem : goal.returns-in-ChangeItem
returns-in-ChangeItem g c = rw c.in-ChangeItem.is (IfOk-weaker c.change_item.result _ _ (λ r h. h c.args.at c.args.draw) c.change_item.ensures)

pub returns-in-AddVariation : goal.returns-in-AddVariation
returns-in-AddVariation g c = rw c.in-AddVariation.is (IfOk-weaker c.add_variation.result _ _ (λ r h. h c.args.at c.args.draw) c.add_variation.ensures)

pub returns-in-AddQuota : goal.returns-in-AddQuota
returns-in-AddQuota g c = rw c.in-AddQuota.is (IfOk-weaker c.add_quota.result _ _ (λ r h. h c.args.at c.args.draw) c.add_quota.ensures)

pub returns-in-ResizeQuota : goal.returns-in-ResizeQuota
returns-in-ResizeQuota g c = rw c.in-ResizeQuota.is (IfOk-weaker c.resize_quota.result _ _ (λ r h. h c.args.at c.args.draw) c.resize_quota.ensures)

pub returns-in-ChangeVoucher : goal.returns-in-ChangeVoucher
returns-in-ChangeVoucher g c = rw c.in-ChangeVoucher.is (IfOk-weaker c.change_voucher.result _ _ (λ r h. h c.args.draw) c.change_voucher.ensures)

pub returns-in-DropVoucher : goal.returns-in-DropVoucher
returns-in-DropVoucher g c = rw c.in-DropVoucher.is (IfOk-weaker c.drop_voucher.result _ _ (λ r h. h c.args.draw) c.drop_voucher.ensures)

pub returns-in-DropCart : goal.returns-in-DropCart
returns-in-DropCart g c = rw c.in-DropCart.is (IfOk-weaker c.drop_cart.result _ _ (λ r h. h c.args.draw) c.drop_cart.ensures)

pub returns-in-MoveOrder : goal.returns-in-MoveOrder
returns-in-MoveOrder g c = rw c.in-MoveOrder.is (IfOk-weaker c.move_order.result _ _ (λ r h. h c.args.draw) c.move_order.ensures)

pub returns-in-AddWaiting : goal.returns-in-AddWaiting
returns-in-AddWaiting g c = rw c.in-AddWaiting.is (IfOk-weaker c.add_waiting.result _ _ (λ r h. h c.args.draw) c.add_waiting.ensures)

pub returns-in-ChangeWaiting : goal.returns-in-ChangeWaiting
returns-in-ChangeWaiting g c = rw c.in-ChangeWaiting.is (IfOk-weaker c.change_waiting.result _ _ (λ r h. h c.args.draw) c.change_waiting.ensures)

pub returns-in-DropWaiting : goal.returns-in-DropWaiting
returns-in-DropWaiting g c = rw c.in-DropWaiting.is (IfOk-weaker c.drop_waiting.result _ _ (λ r h. h c.args.draw) c.drop_waiting.ensures)

pub returns-in-AddCheckinList : goal.returns-in-AddCheckinList
returns-in-AddCheckinList g c = rw c.in-AddCheckinList.is (IfOk-weaker c.add_checkin_list.result _ _ (λ r h. h c.args.draw) c.add_checkin_list.ensures)

pub returns-in-Redeem : goal.returns-in-Redeem
returns-in-Redeem g c = rw c.in-Redeem.is (IfOk-weaker c.redeem.result _ _ (λ r h. h c.args.draw) c.redeem.ensures)
