use Rattle.web_handler.specs.Streams.{trait_meaning}
use Rattle.app_run.proofs.FreshLemmas.{fed_once}
use Rattle.app_run.proofs.laws.what_is_fed_is_answered_once.Goals as goal

pub returns : goal.returns
returns g c = λ first from step old new result fresh fed sure. fed_once (trait_meaning g.T.Tables) first from step old new result fresh fed sure
