use Rattle.std.proofs.Common.{◌∙◌}
use Rattle.file_rows.proofs.UnreadLemmas.{unread, kind_reads}
use Rattle.file_rows.proofs.words.CheckinKindColumn.read.Goals as goal

pub returns-in-Err-clause-refused : goal.returns-in-Err-clause-refused
returns-in-Err-clause-refused c within = unread _ _ (λ no w fit is. let text = kind_reads w in no (text.0, is ∙ text.1, text.2)) c.in-Err.error (c.in-Err.ensures.refused within)
