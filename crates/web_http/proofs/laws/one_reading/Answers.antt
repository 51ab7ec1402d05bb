use Rattle.web_http.proofs.MessageLemmas.{Messages_unique}
use Rattle.web_http.proofs.laws.one_reading.Goals as goal

pub returns : goal.returns
returns c = Messages_unique
