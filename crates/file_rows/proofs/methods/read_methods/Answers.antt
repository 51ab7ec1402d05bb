use Rattle.std.proofs.Common.{◌∙◌}
use Rattle.file_rows.proofs.UnreadLemmas.{unread, methods_read}
use Rattle.file_rows.proofs.methods.read_methods.Goals as goal

pub returns-in-Err-clause-refused : goal.returns-in-Err-clause-refused
returns-in-Err-clause-refused c within = unread _ _ (λ no allow is. let text = methods_read allow in no (text.0, is ∙ text.1, text.2)) c.in-Err.error (c.in-Err.ensures.refused within)
