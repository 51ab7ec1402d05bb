use Rattle.std.proofs.Common.{ap, ◌∙◌, ◌++◌, codes}
use Rattle.std.proofs.lemmas.Result.{IfOk-weaker}
use Rattle.web_responses.proofs.faults.method_text.Goals as goal

pub returns : goal.returns
returns c = IfOk-weaker c.format.result _ _ (λ s h. h ∙ ap (λ m. codes "Method \"" ++ m ++ codes "\" not allowed.") c.in_ok-method.ensures.lossy) c.format.ensures.ok
