use Rattle.web_arrivals.specs.HandlerView.{trait_meaning}
use Rattle.web_arrivals.proofs.GivenLemmas.{all-given}
use Rattle.web_arrivals.proofs.laws.each_status_is_given.Goals as goal

pub returns : goal.returns
returns g c = λ house v old new result.
    all-given (trait_meaning g.T.Tables) house v old new result
