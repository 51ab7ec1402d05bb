use Rattle.file_meaning.proofs.Carried.{free_done}
use Rattle.file_meaning.proofs.laws.row_numbers_stay_free.Goals as goal

pub returns : goal.returns
returns c = λ shop changes counts from at answers t free. free_done shop changes.list counts from answers at t free
