use Rattle.web_arrivals.specs.HandlerView.{trait_meaning}
use Rattle.web_callers.proofs.LawLemmas.{told_once}
use Rattle.web_callers.proofs.laws.callers_are_answered_once.Goals as goal

pub returns : goal.returns
returns g c = λ house p ds came old new all connections sure of stands.
    told_once (trait_meaning g.T.Tables) g.K.Ticks.reads house came old new all connections sure of p ds stands
