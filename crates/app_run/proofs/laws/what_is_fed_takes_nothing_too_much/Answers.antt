use Rattle.web_handler.specs.Streams.{trait_meaning}
use Rattle.app_run.proofs.FreshLemmas.{fed_fairly}
use Rattle.app_run.proofs.laws.what_is_fed_takes_nothing_too_much.Goals as goal

pub returns : goal.returns
returns g c = λ first from step old new result fresh fed sure. fed_fairly (trait_meaning g.T.Tables) first from step old new result fresh fed sure
