use Rattle.file_rebuild.proofs.Offices.{office_told}
use Rattle.file_rebuild.proofs.laws.rows_tell_their_office.Goals as goal

pub returns : goal.returns
returns c = office_told
