use Rattle.std.proofs.Common.{inl, inr, refl}
use Rattle.sqlite.specs.Steps.{over_memory}
use Rattle.app_run.proofs.FreshLemmas.{handler_is_fresh}
use Rattle.app_run.proofs.feeding.feed.Goals as goal

pub returns-in-Ok : goal.returns-in-Ok
returns-in-Ok g c = inl (_, handler_is_fresh over_memory _ _ _ _ c.in-Ok.ensures, c.feed_office.ensures)

pub returns-in-Err : goal.returns-in-Err
returns-in-Err g c = inr (refl, refl)
