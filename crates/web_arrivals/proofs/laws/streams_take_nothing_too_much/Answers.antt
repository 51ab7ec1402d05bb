use Rattle.web_arrivals.specs.HandlerView.{trait_meaning}
use Rattle.web_arrivals.proofs.RowLemmas.{nothing-too-much}
use Rattle.web_arrivals.proofs.laws.streams_take_nothing_too_much.Goals as goal

pub returns : goal.returns
returns g c = λ house v old new result. nothing-too-much (trait_meaning g.T.Tables) house v old new result
