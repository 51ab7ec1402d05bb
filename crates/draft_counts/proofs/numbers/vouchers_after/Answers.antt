use Rattle.std.proofs.Common.{◌≡◌, length, option_copied, ap, arith}
use Rattle.base_tables.specs.Tables.{sum_at}
use Rattle.model_rows.specs.declared.changes.Change.{Change}
use Rattle.model_rows.specs.Lists.{voucher_at}
use Rattle.model_rows.specs.Change.{after_change}
use Rattle.draft_overlay.specs.Logs.{rows_of}
use Rattle.draft_counts.proofs.RowCountLemmas.{count_put, count_drop}
use Rattle.draft_counts.proofs.numbers.vouchers_after.Goals as goal

pub returns-in-PutVoucher : goal.returns-in-PutVoucher
returns-in-PutVoucher g c =
    let lists = rows_of c.args.overlay.now in
    let row = c.in-PutVoucher.row in
    let gone : sum_at (λ d. 1) (option_copied c.voucher.result) ≡ sum_at (λ d. 1) (voucher_at row.id lists) = ap (sum_at (λ d. 1)) c.voucher.ensures in
    omega (arith, c.without_one.ensures, c.requires.vouchers, gone, count_put (λ r. r.id) row lists.vouchers c.recall_invariant.ensures.kept.vouchers.in_order, ap (λ (change : Change). length (after_change change lists).vouchers) c.in-PutVoucher.is)

pub returns-in-DropVoucher : goal.returns-in-DropVoucher
returns-in-DropVoucher g c =
    let lists = rows_of c.args.overlay.now in
    let id = c.in-DropVoucher.id in
    let gone : sum_at (λ d. 1) (option_copied c.voucher-in-DropVoucher.result) ≡ sum_at (λ d. 1) (voucher_at id lists) = ap (sum_at (λ d. 1)) c.voucher-in-DropVoucher.ensures in
    omega (arith, c.without_one-in-DropVoucher.ensures, c.requires.vouchers, gone, count_drop (λ r. r.id) id lists.vouchers c.recall_invariant.ensures.kept.vouchers.in_order, ap (λ (change : Change). length (after_change change lists).vouchers) c.in-DropVoucher.is)
