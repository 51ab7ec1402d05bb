use Rattle.std.proofs.Common.{refl}
use Rattle.web_http.specs.Messages.{same_word}
use Rattle.web_api.proofs.Keys.{first_key, no_key}
use Rattle.web_api.proofs.laws.the_first_key_counts.Goals as goal

pub returns-clause-first : goal.returns-clause-first
returns-clause-first c = first_key

pub returns-clause-none : goal.returns-clause-none
returns-clause-none c = no_key

pub returns-clause-any_case : goal.returns-clause-any_case
unfolding same_word
returns-clause-any_case c = refl

pub returns-clause-other_word : goal.returns-clause-other_word
unfolding same_word
returns-clause-other_word c = refl
