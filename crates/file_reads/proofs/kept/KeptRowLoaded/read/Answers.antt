use Rattle.file_rows.proofs.UnreadLemmas.{unread}
use Rattle.file_reads.proofs.kept.KeptRowLoaded.read.Goals as goal

pub returns-in-Err-clause-refused : goal.returns-in-Err-clause-refused
returns-in-Err-clause-refused c = unread _ _ (λ no w fit is. no (w.rowid, (w.kept.token, (w.kept.key, (w.kept.at, (w.kept.response.status, (record { named = w.kept.response.allow }, (w.kept.response.body, tt))))))) (tt, (tt, (tt, (fit.at, (fit.status, (tt, (tt, tt))))))) is) c.in-Err.error c.in-Err.ensures.refused
