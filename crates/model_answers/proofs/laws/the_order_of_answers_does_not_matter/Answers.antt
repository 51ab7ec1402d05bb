use Rattle.model_answers.proofs.AnyOrder.{in-any-order}
use Rattle.model_answers.proofs.laws.the_order_of_answers_does_not_matter.Goals as goal

pub returns : goal.returns
returns c = in-any-order
