use Rattle.file_rows.proofs.UnreadLemmas.{unread}
use Rattle.file_reads.proofs.Causes.{free}
use Rattle.file_reads.proofs.carts.CartPosLoaded.read.Goals as goal

pub returns-in-Err-clause-refused : goal.returns-in-Err-clause-refused
returns-in-Err-clause-refused c = unread _ _ (λ no w fit is. no (w.id, (w.cart_id, (w.product.item, (w.product.variation, (w.price, (w.made_at, (w.expires, (w.voucher, tt)))))))) (tt, (fit.cart_id, (tt, (free w.product.variation, (fit.price, (fit.made_at, (fit.expires, (free w.voucher, tt)))))))) is) c.in-Err.error c.in-Err.ensures.refused
