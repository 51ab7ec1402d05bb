use Rattle.std.proofs.Common.{ap, ◌∙◌, drop}
use Rattle.std.proofs.lemmas.List.{take_rest}
use Rattle.base_index.proofs.block.Block.split_into.Goals as goal

pub returns-clause-moved : goal.returns-clause-moved
returns-clause-moved c = c.fill.ensures ∙ take_rest c.deref.result.now 256 ∙ ap (drop 256) (c.deref.ensures.value ∙ c.self.view_is)
