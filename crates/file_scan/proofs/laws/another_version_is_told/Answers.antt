use Rattle.file_scan.proofs.FitLemmas.{told_as}
use Rattle.file_scan.proofs.laws.another_version_is_told.Goals as goal

pub returns : goal.returns
returns c = λ from t db known held shop one other e cause. told_as from t db known held shop one other e cause
