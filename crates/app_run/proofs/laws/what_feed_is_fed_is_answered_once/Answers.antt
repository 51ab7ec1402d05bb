use Rattle.app_run.proofs.FreshLemmas.{feeds_once}
use Rattle.app_run.proofs.laws.what_feed_is_fed_is_answered_once.Goals as goal

pub returns : goal.returns
returns c = feeds_once
