use Rattle.file_rows.proofs.UnreadLemmas.{unread}
use Rattle.file_reads.proofs.budgets.BudgetRowLoaded.read.Goals as goal

pub returns-in-Err-clause-refused : goal.returns-in-Err-clause-refused
returns-in-Err-clause-refused c = unread _ _ (λ no w fit is. no (w.voucher_id, (w.budget, tt)) (tt, (fit.budget, tt)) is) c.in-Err.error c.in-Err.ensures.refused
