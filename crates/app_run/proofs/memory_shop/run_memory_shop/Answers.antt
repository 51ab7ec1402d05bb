use Rattle.std.proofs.Common.{inl, inr, refl}
use Rattle.sqlite.specs.Steps.{over_memory}
use Rattle.app_run.proofs.FreshLemmas.{handler_is_fresh}
use Rattle.app_run.proofs.memory_shop.run_memory_shop.Goals as goal

pub returns-in-Ok-clause-leads : goal.returns-in-Ok-clause-leads
returns-in-Ok-clause-leads g c = let run = c.run_office.ensures.leads in inl (_, run.0, handler_is_fresh over_memory _ _ _ _ c.in-Ok.ensures, run.1)

pub returns-in-Err-clause-leads : goal.returns-in-Err-clause-leads
returns-in-Err-clause-leads g c = inr (refl, refl)
