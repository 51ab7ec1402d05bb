use Rattle.web_http.proofs.MessageLemmas.{Messages_ended}
use Rattle.web_http.proofs.laws.the_end_stays.Goals as goal

pub returns : goal.returns
returns c = Messages_ended
