use Rattle.file_rows.proofs.UnreadLemmas.{unread}
use Rattle.file_reads.proofs.checkins.CheckinLoaded.read.Goals as goal

pub returns-in-Err-clause-refused : goal.returns-in-Err-clause-refused
returns-in-Err-clause-refused c = unread _ _ (λ no w fit is. no (w.id, (w.list, (w.position, (w.kind, (w.datetime, (w.nonce, tt)))))) (tt, (tt, (tt, (tt, (fit.datetime, (fit.nonce, tt)))))) is) c.in-Err.error c.in-Err.ensures.refused
