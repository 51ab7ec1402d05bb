use Rattle.file_rows.proofs.UnreadLemmas.{unread}
use Rattle.file_reads.proofs.Causes.{free}
use Rattle.file_reads.proofs.vouchers.VoucherRowLoaded.read.Goals as goal

pub returns-in-Err-clause-refused : goal.returns-in-Err-clause-refused
returns-in-Err-clause-refused c =
    unread _ _ (λ no w fit is.
    no
    (w.voucher.id, (w.voucher.code, (w.voucher.max_usages, (w.voucher.valid_until, (w.voucher.block_quota, (w.voucher.allow_ignore_quota, (w.voucher.price_mode, (w.voucher.value, (w.voucher.item, (w.voucher.variation, (w.voucher.quota, (w.voucher.tag, (w.voucher.comment, (w.redeemed, tt))))))))))))))
    (tt, (fit.code, (fit.uses, (fit.end, (tt, (tt, (tt, (fit.value, (free w.voucher.item, (free w.voucher.variation, (free w.voucher.quota, (fit.tag, (fit.comment, (tt, tt)))))))))))))) is) c.in-Err.error c.in-Err.ensures.refused
