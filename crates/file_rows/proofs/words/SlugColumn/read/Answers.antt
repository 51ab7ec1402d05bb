use Rattle.file_rows.proofs.UnreadLemmas.{unread, slug_utf8}
use Rattle.file_rows.proofs.words.SlugColumn.read.Goals as goal

pub returns-in-Err-clause-refused : goal.returns-in-Err-clause-refused
returns-in-Err-clause-refused c within = unread _ _ (λ no slug fit is. no (slug, is, slug_utf8 slug fit)) c.in-Err.error (c.in-Err.ensures.refused within)
