use Rattle.sqlite.specs.Held.{state}
use Rattle.sqlite.specs.State.{HasCleanDisk}
use Rattle.sqlite.specs.Steps.{over_memory}
use Rattle.app_run.proofs.Sure.{memory_sure, once_sure}
use Rattle.app_run.proofs.opening.open_memory.Goals as goal

pub returns : goal.returns
returns c = once_sure c.open_store.result (λ made. HasCleanDisk (state over_memory made.0.connection)) _ (λ made. memory_sure made.0) c.open_store.ensures
