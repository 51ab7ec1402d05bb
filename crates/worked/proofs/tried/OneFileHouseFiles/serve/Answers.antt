use Rattle.std.proofs.Common.{Err, Ok}
use Rattle.web_cli.proofs.SayLemmas.{says_listening}
use Rattle.worked.proofs.tried.OneFileHouseFiles.serve.Goals as goal

pub returns-in-Ok-clause-said : goal.returns-in-Ok-clause-said
returns-in-Ok-clause-said g c = says_listening _ _ _ _ (Ok c.in-Ok.field-0) _ c.as_bytes.ensures.value c.in-Ok.ensures tt

pub returns-in-Err-clause-said : goal.returns-in-Err-clause-said
returns-in-Err-clause-said g c = says_listening _ _ _ _ (Err c.in-Err.refused) _ c.as_bytes.ensures.value c.in-Err.ensures c.end_said.ensures
