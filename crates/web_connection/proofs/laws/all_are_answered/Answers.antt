use Rattle.web_connection.proofs.LawLemmas.{all_answered}
use Rattle.web_connection.proofs.laws.all_are_answered.Goals as goal

pub returns : goal.returns
returns c = all_answered
