use Rattle.file_tables.proofs.Asked.{found_if}
use Rattle.file_tables.proofs.answers.UnderLookupKeptRow.look.Goals as goal

pub returns-clause-found : goal.returns-clause-found
returns-clause-found g c clean = found_if c.find_kept.result _ _ (c.find_kept.ensures.found clean)
