use Rattle.file_rows.proofs.UnreadLemmas.{unread}
use Rattle.file_reads.proofs.checkin_lists.ListRowLoaded.read.Goals as goal

pub returns-in-Err-clause-refused : goal.returns-in-Err-clause-refused
returns-in-Err-clause-refused c = unread _ _ (λ no w fit is. no (w.id, (w.name, (w.all_products, (w.include_pending, (w.allow_multiple_entries, (w.allow_entry_after_exit, tt)))))) (tt, (fit.name, (tt, (tt, (tt, (tt, tt)))))) is) c.in-Err.error c.in-Err.ensures.refused
