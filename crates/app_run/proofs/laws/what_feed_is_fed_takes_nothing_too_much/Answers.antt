use Rattle.app_run.proofs.FreshLemmas.{feeds_fairly}
use Rattle.app_run.proofs.laws.what_feed_is_fed_takes_nothing_too_much.Goals as goal

pub returns : goal.returns
returns c = feeds_fairly
