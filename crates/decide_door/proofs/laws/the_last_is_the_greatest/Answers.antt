use Rattle.decide_door.proofs.Last.{last_of_is}
use Rattle.decide_door.proofs.laws.the_last_is_the_greatest.Goals as goal

pub returns : goal.returns
returns c = last_of_is
