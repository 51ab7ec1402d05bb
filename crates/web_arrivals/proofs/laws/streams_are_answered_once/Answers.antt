use Rattle.web_arrivals.specs.HandlerView.{trait_meaning}
use Rattle.web_arrivals.proofs.StreamLemmas.{told-once}
use Rattle.web_arrivals.proofs.laws.streams_are_answered_once.Goals as goal

pub returns : goal.returns
returns g c = λ house p ds old new result. told-once (trait_meaning g.T.Tables) house p ds old new result
