use Rattle.std.proofs.Common.{not, sym, ◌∙◌}
use Rattle.std.specs.Prelude.{is_none}
use Rattle.model_rows.specs.declared.rows.Voucher.{Voucher}
use Rattle.model_rows.specs.CountRows.{quota_count, voucher_count}
use Rattle.model_rows.specs.Lists.{State, voucher_at}
use Rattle.book_counts_to_write.specs.Told.{has_count, has_voucher}
use Rattle.book_counts_to_write.proofs.Picked.{filter_is}
use Rattle.book_counts_to_write.proofs.WalkedRows.{counts_are}
use Rattle.book_counts_to_write.proofs.compared.counts_between.Goals as goal

pub returns : goal.returns
returns g c =
    let before : State = g.A.Book.state c.args.before.now in
    let after : State = g.C.Book.state c.args.after.now in
    counts_are before after c.new.result c.in_ok-quotas.quotas.items c.as_slice.result.now c.in_ok-exits.exits.items c.in_ok-vouchers.vouchers.items c.in_ok-gone.gone.items c.new.ensures.quotas c.new.ensures.exits c.new.ensures.vouchers c.new.ensures.gone
    (c.in_ok-quotas.ensures ∙ sym (filter_is (λ n. not (has_count before n)) (quota_count after) after.lists.catalogue.quotas))
    c.as_slice.ensures.value c.in_ok-exits.ensures
    (c.in_ok-vouchers.ensures ∙ sym (filter_is (λ n. not (has_voucher before n)) (voucher_count after) after.lists.vouchers))
    (c.in_ok-gone.ensures ∙ sym (filter_is (λ id. is_none (voucher_at id after.lists)) (λ (v : Voucher). v.id) before.lists.vouchers))
