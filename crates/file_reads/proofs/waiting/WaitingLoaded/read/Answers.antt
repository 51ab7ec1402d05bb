use Rattle.file_rows.proofs.UnreadLemmas.{unread}
use Rattle.file_reads.proofs.Causes.{free}
use Rattle.file_reads.proofs.waiting.WaitingLoaded.read.Goals as goal

pub returns-in-Err-clause-refused : goal.returns-in-Err-clause-refused
returns-in-Err-clause-refused c = unread _ _ (λ no w fit is. no (w.id, (w.email, (w.product.item, (w.product.variation, (w.priority, (w.created, (w.voucher, tt))))))) (tt, (fit.email, (tt, (free w.product.variation, (fit.priority, (fit.created, (free w.voucher, tt))))))) is) c.in-Err.error c.in-Err.ensures.refused
