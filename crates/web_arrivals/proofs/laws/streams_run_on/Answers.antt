use Rattle.web_arrivals.specs.HandlerView.{trait_meaning}
use Rattle.web_arrivals.proofs.StreamLemmas.{run-on}
use Rattle.web_arrivals.proofs.laws.streams_run_on.Goals as goal

pub returns : goal.returns
returns g c = λ house r old new result. run-on (trait_meaning g.T.Tables) house r old new result
