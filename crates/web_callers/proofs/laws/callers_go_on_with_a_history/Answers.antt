use Rattle.web_arrivals.specs.HandlerView.{trait_meaning}
use Rattle.web_callers.proofs.LawLemmas.{history_on}
use Rattle.web_callers.proofs.laws.callers_go_on_with_a_history.Goals as goal

pub returns : goal.returns
returns g c = λ house begun r es came old new all connections sure of happened running.
    history_on (trait_meaning g.T.Tables) g.K.Ticks.reads house came old new all connections sure of begun r es happened running
