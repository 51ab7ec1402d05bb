use Rattle.file_rows.proofs.UnreadLemmas.{unread}
use Rattle.file_reads.proofs.variations.VariationLoaded.read.Goals as goal

pub returns-in-Err-clause-refused : goal.returns-in-Err-clause-refused
returns-in-Err-clause-refused c = unread _ _ (λ no w fit is. no (w.id, (w.item, (w.name, (w.default_price, (w.active, tt))))) (tt, (tt, (fit.name, (fit.price, (tt, tt))))) is) c.in-Err.error c.in-Err.ensures.refused
