use Rattle.web_responses.proofs.StatusLemmas.{words_given}
use Rattle.web_responses.proofs.laws.replies_have_given_statuses.Goals as goal

pub returns-clause-replies : goal.returns-clause-replies
returns-clause-replies c = words_given
