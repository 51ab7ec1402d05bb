use Rattle.file_open.proofs.migrating.read_earlier.Goals as goal

pub returns-in-Ok-clause-held : goal.returns-in-Ok-clause-held
returns-in-Ok-clause-held g c = let it = c.in-Ok.ensures.held in (it.0, _, it.1)
