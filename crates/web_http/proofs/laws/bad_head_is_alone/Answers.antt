use Rattle.web_http.proofs.MessageLemmas.{no_head_beside}
use Rattle.web_http.proofs.laws.bad_head_is_alone.Goals as goal

pub returns : goal.returns
returns c = no_head_beside
