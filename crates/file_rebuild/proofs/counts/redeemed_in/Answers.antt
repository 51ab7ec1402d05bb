use Rattle.std.proofs.Common.{◌≡◌, List, ap, map, subst, IfOk, ◌∙◌}
use Rattle.std.specs.List.{zip}
use Rattle.file_rows.specs.declared.rows.SpentRow.{SpentRow}
use Rattle.model_rows.specs.declared.count_rows.VoucherCount.{VoucherCount}
use Rattle.file_rebuild.proofs.Joined.{counts_with}
use Rattle.file_rebuild.proofs.counts.redeemed_in.Goals as goal

pub returns : goal.returns
returns c =
    let vouchers = c.args.vouchers.now in
    let spents = c.args.spents.items in
    let told = ap (λ l. map (λ (p : VoucherCount × SpentRow). record { voucher = p.0.voucher; redeemed = p.0.redeemed; spent = p.1.spent }) (zip l spents)) c.in_ok-uses.ensures ∙ counts_with vouchers spents in
    subst (λ (l : List VoucherCount). IfOk c.with_spents.result (λ all. all.items ≡ l)) told c.with_spents.ensures
