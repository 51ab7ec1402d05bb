use Rattle.std.proofs.Common.{refl, map, sym, ap, ◌∙◌}
use Rattle.model_rows.specs.declared.changes.Change.{Change}
use Rattle.model_rows.specs.declared.rows.Voucher.{Voucher}
use Rattle.model_rows.specs.Change.{after_change}
use Rattle.book_counts_applied.proofs.settle.keep_beside.Goals as goal

pub returns-in-PutVoucher-clause-kept : goal.returns-in-PutVoucher-clause-kept
returns-in-PutVoucher-clause-kept g c f new is =
    let keeps = rw c.vouchers.ensures at c.keep_place.ensures.kept in
    keeps f c.in-PutVoucher.row refl (new c.in-PutVoucher.row c.in-PutVoucher.is) is
    ∙ ap (λ (change : Change). map (λ (v : Voucher). f v.id) (after_change change c.args.store.now.state.lists).vouchers) (sym c.in-PutVoucher.is)
