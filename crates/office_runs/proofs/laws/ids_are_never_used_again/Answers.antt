use Rattle.office_runs.proofs.Runs.{ids_all, ids_over}
use Rattle.office_runs.proofs.laws.ids_are_never_used_again.Goals as goal

pub returns-clause-each : goal.returns-clause-each
returns-clause-each c = ids_all

pub returns-clause-run : goal.returns-clause-run
returns-clause-run c = ids_over
