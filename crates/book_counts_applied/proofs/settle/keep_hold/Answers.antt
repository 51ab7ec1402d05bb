use Rattle.std.proofs.Common.{ap, ◌∙◌, refl}
use Rattle.model_rows.specs.declared.rows.Voucher.{Voucher}
use Rattle.model_rows.specs.Headroom.{held}
use Rattle.book_counts_applied.proofs.settle.keep_hold.Goals as goal

pub returns-clause-held : goal.returns-clause-held
returns-clause-held c =
    let lists = c.args.store.now.state.lists in
    let keeps = rw c.vouchers.ensures at c.keep.ensures.kept in
    keeps (λ (v : Voucher). held c.args.store.now.state.moment v.id lists) c.args.row.now refl (c.held_by-held.ensures.value ∙ ap (λ at. held at c.args.row.now.id lists) c.moment.ensures) c.requires.held
