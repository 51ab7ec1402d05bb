use Rattle.web_http.proofs.MessageLemmas.{Messages_cut}
use Rattle.web_http.proofs.laws.cutting_makes_no_difference.Goals as goal

pub returns : goal.returns
returns c = Messages_cut
