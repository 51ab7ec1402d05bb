use Rattle.web_arrivals.specs.HandlerView.{trait_meaning}
use Rattle.web_arrivals.proofs.StreamLemmas.{all-alike}
use Rattle.web_arrivals.proofs.laws.runs_are_alike.Goals as goal

pub returns : goal.returns
returns g c = λ house v old new other newer ticks items a b.
    all-alike (trait_meaning g.T.Tables) (trait_meaning g.U.Tables) house v old new other newer ticks items a b
