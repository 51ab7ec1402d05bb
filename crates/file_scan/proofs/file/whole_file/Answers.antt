use Rattle.file_scan.proofs.file.whole_file.Goals as goal

pub returns-in-Err-default-clause-cause : goal.returns-in-Err-default-clause-cause
returns-in-Err-default-clause-cause c db shows none has damaged = c.in-Err-default.ensures.cause db shows none has
