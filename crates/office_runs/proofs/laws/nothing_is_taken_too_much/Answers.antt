use Rattle.office_runs.proofs.NothingOver.{nothing_over}
use Rattle.office_runs.proofs.laws.nothing_is_taken_too_much.Goals as goal

pub returns-clause-each : goal.returns-clause-each
returns-clause-each c = λ words p ds fit sound. (nothing_over words p ds fit sound).0

pub returns-clause-all : goal.returns-clause-all
returns-clause-all c = λ words p ds fit sound. (nothing_over words p ds fit sound).1
