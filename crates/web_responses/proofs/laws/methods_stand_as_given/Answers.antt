use Rattle.std.proofs.Common.{ap, ◌++◌, Some, codes}
use Rattle.web_responses.specs.Responses.{response, detail_body}
use Rattle.web_responses.specs.Faults.{method_not_allowed}
use Rattle.web_responses.proofs.MethodLemmas.{method_as_given}
use Rattle.web_responses.proofs.laws.methods_stand_as_given.Goals as goal

pub returns : goal.returns
unfolding method_not_allowed
returns c = λ method methods token. ap (λ m. response 405 (Some methods) (detail_body (codes "Method \"" ++ m ++ codes "\" not allowed."))) (method_as_given method token)
