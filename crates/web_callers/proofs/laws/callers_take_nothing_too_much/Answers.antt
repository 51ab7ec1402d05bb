use Rattle.web_arrivals.specs.HandlerView.{trait_meaning}
use Rattle.web_callers.proofs.LawLemmas.{too_much}
use Rattle.web_callers.proofs.laws.callers_take_nothing_too_much.Goals as goal

pub returns : goal.returns
returns g c = λ house v came old new all sound connections sure of views.
    too_much (trait_meaning g.T.Tables) g.K.Ticks.reads house came old new all connections sure of v sound views
