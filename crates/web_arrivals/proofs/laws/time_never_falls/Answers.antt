use Rattle.web_arrivals.specs.HandlerView.{trait_meaning}
use Rattle.web_arrivals.proofs.RowLemmas.{time-never-falls}
use Rattle.web_arrivals.proofs.laws.time_never_falls.Goals as goal

pub returns : goal.returns
returns g c = λ house v old new result. time-never-falls (trait_meaning g.T.Tables) house v old new result
