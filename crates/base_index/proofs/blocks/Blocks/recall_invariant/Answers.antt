use Rattle.base_index.proofs.RoomLemmas.{few_places}
use Rattle.base_index.proofs.blocks.Blocks.recall_invariant.Goals as goal

pub returns : goal.returns
returns c = rw (← c.self.view_is) (few_places c.self.inside.chain c.self.inside.last c.self.inside.room c.self.invariant)
