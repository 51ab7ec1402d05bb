use Rattle.file_scan.proofs.FitLemmas.{of_machine}
use Rattle.file_scan.proofs.laws.fit_tables_are_no_fault.Goals as goal

pub returns : goal.returns
returns c = λ t db known held fit e cause. of_machine db known t held fit e cause
