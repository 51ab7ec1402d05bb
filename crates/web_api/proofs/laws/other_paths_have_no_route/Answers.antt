use Rattle.std.proofs.Common.{[], codes, refl}
use Rattle.matchit.proofs.OnLiterals.{matchit_on_literals}
use Rattle.web_api.proofs.RoutePaths.{none_sought}
use Rattle.web_api.proofs.laws.other_paths_have_no_route.Goals as goal

pub returns-clause-empty : goal.returns-clause-empty
unfolding matchit_on_literals
returns-clause-empty c = none_sought [] refl

pub returns-clause-slash : goal.returns-clause-slash
unfolding matchit_on_literals
returns-clause-slash c = none_sought (codes "/") refl

pub returns-clause-no_last_slash : goal.returns-clause-no_last_slash
unfolding matchit_on_literals
returns-clause-no_last_slash c = none_sought (codes "/items") refl

pub returns-clause-no_first_slash : goal.returns-clause-no_first_slash
unfolding matchit_on_literals
returns-clause-no_first_slash c = none_sought (codes "items/") refl

pub returns-clause-no_id : goal.returns-clause-no_id
unfolding matchit_on_literals
returns-clause-no_id c = none_sought (codes "/items//") refl

pub returns-clause-no_slash_behind_id : goal.returns-clause-no_slash_behind_id
unfolding matchit_on_literals
returns-clause-no_slash_behind_id c = none_sought (codes "/items/1") refl

pub returns-clause-too_deep : goal.returns-clause-too_deep
unfolding matchit_on_literals
returns-clause-too_deep c = none_sought (codes "/items/1/2/") refl

pub returns-clause-other_case : goal.returns-clause-other_case
unfolding matchit_on_literals
returns-clause-other_case c = none_sought (codes "/Items/") refl

pub returns-clause-other_word : goal.returns-clause-other_word
unfolding matchit_on_literals
returns-clause-other_word c = none_sought (codes "/orders/A0001/pay/") refl
