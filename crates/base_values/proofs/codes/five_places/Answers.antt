use Rattle.std.proofs.Common.{arith, ◌∙◌}
use Rattle.base_values.proofs.CodeLemmas.{five_read, others_not}
use Rattle.base_values.proofs.codes.five_places.Goals as goal

pub returns-in-len5-clause-value : goal.returns-in-len5-clause-value
returns-in-len5-clause-value c = c.five_letters.ensures.value ∙ five_read c.args.text.now (omega arith)

pub returns-in_default-clause-value : goal.returns-in_default-clause-value
returns-in_default-clause-value c = others_not c.args.text.now (λ h. omega arith)

pub returns-in_default-2-clause-value : goal.returns-in_default-2-clause-value
returns-in_default-2-clause-value c = others_not c.args.text.now (λ h. omega arith)
