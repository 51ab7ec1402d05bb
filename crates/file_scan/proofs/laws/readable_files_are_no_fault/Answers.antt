use Rattle.file_scan.proofs.FitLemmas.{of_readable}
use Rattle.file_scan.proofs.laws.readable_files_are_no_fault.Goals as goal

pub returns : goal.returns
returns c = λ db known r e cause. of_readable db known r e cause
