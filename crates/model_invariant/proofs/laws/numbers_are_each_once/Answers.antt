use Rattle.model_invariant.proofs.ByNumber.{each_once}
use Rattle.model_invariant.proofs.laws.numbers_are_each_once.Goals as goal

pub returns : goal.returns
returns c = λ positions. each_once positions
