use Rattle.model_rows.proofs.Exits.{exited_are_paid as are_paid, none_exited}
use Rattle.model_invariant.proofs.laws.exited_are_paid.Goals as goal

pub returns-clause-paid : goal.returns-clause-paid
returns-clause-paid c = λ lists at quota. are_paid lists quota at

pub returns-clause-kept : goal.returns-clause-kept
returns-clause-kept c = λ lists at quota closed. none_exited lists quota closed at
