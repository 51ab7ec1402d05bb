use Rattle.web_http.proofs.MessageLemmas.{none_shorter}
use Rattle.web_http.proofs.laws.head_is_the_shortest.Goals as goal

pub returns : goal.returns
returns c = none_shorter
