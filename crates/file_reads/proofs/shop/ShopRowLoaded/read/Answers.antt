use Rattle.file_rows.proofs.UnreadLemmas.{unread}
use Rattle.file_reads.proofs.shop.ShopRowLoaded.read.Goals as goal

pub returns-in-Err-clause-refused : goal.returns-in-Err-clause-refused
returns-in-Err-clause-refused c =
    unread _ _ (λ no w fit is.
    no
    (1, (w.version, (w.organizer, (w.event, (w.moment, (w.next.item, (w.next.variation, (w.next.quota, (w.next.voucher, (w.next.cart, (w.next.order, (w.next.position, (w.next.waiting, (w.next.list, (w.next.checkin, (w.next_token, tt))))))))))))))))
    (tt, (tt, (fit.organizer, (fit.event, (fit.moment, (tt, (tt, (tt, (tt, (tt, (tt, (tt, (tt, (tt, (tt, (tt, tt)))))))))))))))) is) c.in-Err.error c.in-Err.ensures.refused
