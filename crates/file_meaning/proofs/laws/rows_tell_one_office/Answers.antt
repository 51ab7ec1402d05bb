use Rattle.file_meaning.proofs.Told.{tell_one}
use Rattle.file_meaning.proofs.laws.rows_tell_one_office.Goals as goal

pub returns : goal.returns
returns c = λ a b xs ys o p h k same. tell_one a b xs ys o p h k same
