use Rattle.app_csv.proofs.Numbered.{is_by_number}
use Rattle.app_csv.proofs.laws.the_export_is_by_number.Goals as goal

pub returns : goal.returns
returns c = is_by_number
