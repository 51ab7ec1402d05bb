use Rattle.file_scan.proofs.FitLemmas.{tells}
use Rattle.file_scan.proofs.laws.a_version_is_told_of_the_shop.Goals as goal

pub returns : goal.returns
returns c = λ t db known held shop one version cause. tells t db known held shop one version cause
