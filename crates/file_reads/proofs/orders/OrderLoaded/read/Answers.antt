use Rattle.file_rows.proofs.UnreadLemmas.{unread}
use Rattle.file_reads.proofs.orders.OrderLoaded.read.Goals as goal

pub returns-in-Err-clause-refused : goal.returns-in-Err-clause-refused
returns-in-Err-clause-refused c = unread _ _ (λ no w fit is. no (w.id, (w.email, (w.status, (w.made_at, (w.expires, tt))))) (tt, (fit.email, (tt, (fit.made_at, (fit.expires, tt))))) is) c.in-Err.error c.in-Err.ensures.refused
