use Rattle.sqlite.specs.Held.{state}
use Rattle.file_tables.proofs.ChangeLemmas.{as_asked}
use Rattle.file_tables.proofs.writes.changes.ChangeWritable.write.Goals as goal

pub returns-in-PutItem : goal.returns-in-PutItem
returns-in-PutItem g c = record {
  inside = c.put_row.ensures.inside;
  written = λ clean at. as_asked c.put_row.result c.args.self.now _ c.args.from (state g.S.Store c.args.tx.now.conn.now) (state g.S.Store c.put_row.new.tx.conn.now) c.in-PutItem.is (c.put_row.ensures.written clean at);
}

pub returns-in-PutVariation : goal.returns-in-PutVariation
returns-in-PutVariation g c = record {
  inside = c.put_row-in-PutVariation.ensures.inside;
  written = λ clean at. as_asked c.put_row-in-PutVariation.result c.args.self.now _ c.args.from (state g.S.Store c.args.tx.now.conn.now) (state g.S.Store c.put_row-in-PutVariation.new.tx.conn.now) c.in-PutVariation.is (c.put_row-in-PutVariation.ensures.written clean at);
}

pub returns-in-PutQuota : goal.returns-in-PutQuota
returns-in-PutQuota g c = record {
  inside = c.write_quota.ensures.inside;
  written = λ clean at. as_asked c.write_quota.result c.args.self.now _ c.args.from (state g.S.Store c.args.tx.now.conn.now) (state g.S.Store c.write_quota.new.tx.conn.now) c.in-PutQuota.is (c.write_quota.ensures.written clean at);
}

pub returns-in-PutVoucher : goal.returns-in-PutVoucher
returns-in-PutVoucher g c = record {
  inside = c.put_voucher_row.ensures.inside;
  written = λ clean at. as_asked c.put_voucher_row.result c.args.self.now _ c.args.from (state g.S.Store c.args.tx.now.conn.now) (state g.S.Store c.put_voucher_row.new.tx.conn.now) c.in-PutVoucher.is (c.put_voucher_row.ensures.written clean at);
}

pub returns-in-PutCart : goal.returns-in-PutCart
returns-in-PutCart g c = record {
  inside = c.put_row-in-PutCart.ensures.inside;
  written = λ clean at. as_asked c.put_row-in-PutCart.result c.args.self.now _ c.args.from (state g.S.Store c.args.tx.now.conn.now) (state g.S.Store c.put_row-in-PutCart.new.tx.conn.now) c.in-PutCart.is (c.put_row-in-PutCart.ensures.written clean at);
}

pub returns-in-PutOrder : goal.returns-in-PutOrder
returns-in-PutOrder g c = record {
  inside = c.put_row-in-PutOrder.ensures.inside;
  written = λ clean at. as_asked c.put_row-in-PutOrder.result c.args.self.now _ c.args.from (state g.S.Store c.args.tx.now.conn.now) (state g.S.Store c.put_row-in-PutOrder.new.tx.conn.now) c.in-PutOrder.is (c.put_row-in-PutOrder.ensures.written clean at);
}

pub returns-in-PutPosition : goal.returns-in-PutPosition
returns-in-PutPosition g c = record {
  inside = c.put_position_row.ensures.inside;
  written = λ clean at. as_asked c.put_position_row.result c.args.self.now _ c.args.from (state g.S.Store c.args.tx.now.conn.now) (state g.S.Store c.put_position_row.new.tx.conn.now) c.in-PutPosition.is (c.put_position_row.ensures.written clean at);
}

pub returns-in-PutWaiting : goal.returns-in-PutWaiting
returns-in-PutWaiting g c = record {
  inside = c.put_row-in-PutWaiting.ensures.inside;
  written = λ clean at. as_asked c.put_row-in-PutWaiting.result c.args.self.now _ c.args.from (state g.S.Store c.args.tx.now.conn.now) (state g.S.Store c.put_row-in-PutWaiting.new.tx.conn.now) c.in-PutWaiting.is (c.put_row-in-PutWaiting.ensures.written clean at);
}

pub returns-in-DropVoucher : goal.returns-in-DropVoucher
returns-in-DropVoucher g c = record {
  inside = c.drop_voucher.ensures.inside;
  written = λ clean at. as_asked c.drop_voucher.result c.args.self.now _ c.args.from (state g.S.Store c.args.tx.now.conn.now) (state g.S.Store c.drop_voucher.new.tx.conn.now) c.in-DropVoucher.is (c.drop_voucher.ensures.written clean at);
}

pub returns-in-DropCart : goal.returns-in-DropCart
returns-in-DropCart g c = record {
  inside = c.drop_row.ensures.inside;
  written = λ clean at. as_asked c.drop_row.result c.args.self.now _ c.args.from (state g.S.Store c.args.tx.now.conn.now) (state g.S.Store c.drop_row.new.tx.conn.now) c.in-DropCart.is (c.drop_row.ensures.written clean at);
}

pub returns-in-DropWaiting : goal.returns-in-DropWaiting
returns-in-DropWaiting g c = record {
  inside = c.drop_row-in-DropWaiting.ensures.inside;
  written = λ clean at. as_asked c.drop_row-in-DropWaiting.result c.args.self.now _ c.args.from (state g.S.Store c.args.tx.now.conn.now) (state g.S.Store c.drop_row-in-DropWaiting.new.tx.conn.now) c.in-DropWaiting.is (c.drop_row-in-DropWaiting.ensures.written clean at);
}

pub returns-in-PutCheckinList : goal.returns-in-PutCheckinList
returns-in-PutCheckinList g c = record {
  inside = c.write_list.ensures.inside;
  written = λ clean at. as_asked c.write_list.result c.args.self.now _ c.args.from (state g.S.Store c.args.tx.now.conn.now) (state g.S.Store c.write_list.new.tx.conn.now) c.in-PutCheckinList.is (c.write_list.ensures.written clean at);
}

pub returns-in-PutCheckin : goal.returns-in-PutCheckin
returns-in-PutCheckin g c = record {
  inside = c.put_row-in-PutCheckin.ensures.inside;
  written = λ clean at. as_asked c.put_row-in-PutCheckin.result c.args.self.now _ c.args.from (state g.S.Store c.args.tx.now.conn.now) (state g.S.Store c.put_row-in-PutCheckin.new.tx.conn.now) c.in-PutCheckin.is (c.put_row-in-PutCheckin.ensures.written clean at);
}
