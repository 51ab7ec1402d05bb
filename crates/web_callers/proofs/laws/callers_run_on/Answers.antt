use Rattle.web_arrivals.specs.HandlerView.{trait_meaning}
use Rattle.web_callers.proofs.LawLemmas.{run_on}
use Rattle.web_callers.proofs.laws.callers_run_on.Goals as goal

pub returns : goal.returns
returns g c = λ house r came old new all connections sure of running.
    run_on (trait_meaning g.T.Tables) g.K.Ticks.reads house came old new all connections sure of r running
