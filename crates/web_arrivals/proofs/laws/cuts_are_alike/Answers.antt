use Rattle.web_arrivals.specs.HandlerView.{trait_meaning}
use Rattle.web_arrivals.proofs.CutLemmas.{cuts-alike}
use Rattle.web_arrivals.proofs.laws.cuts_are_alike.Goals as goal

pub returns : goal.returns
returns g c = λ house v bytes ticks written old new other newer.
    cuts-alike (trait_meaning g.T.Tables) (trait_meaning g.U.Tables)
    house v bytes ticks written old new other newer
