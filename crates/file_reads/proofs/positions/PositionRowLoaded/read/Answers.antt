use Rattle.file_rows.proofs.UnreadLemmas.{unread}
use Rattle.file_reads.proofs.Causes.{free}
use Rattle.file_reads.proofs.positions.PositionRowLoaded.read.Goals as goal

pub returns-in-Err-clause-refused : goal.returns-in-Err-clause-refused
returns-in-Err-clause-refused c = unread _ _ (λ no w fit is. no (w.id, (w.order, (w.positionid, (w.product.item, (w.product.variation, (w.price, (w.voucher, (w.secret, tt)))))))) (tt, (tt, (fit.positionid, (tt, (free w.product.variation, (fit.price, (free w.voucher, (fit.secret, tt)))))))) is) c.in-Err.error c.in-Err.ensures.refused
