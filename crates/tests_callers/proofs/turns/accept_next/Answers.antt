use Rattle.tests_callers.proofs.ComeLemmas.{some_came}
use Rattle.tests_callers.proofs.turns.accept_next.Goals as goal

pub returns : goal.returns
returns g c = some_came c.accept.result _ _ c.in-Some.slot _ _ c.in-Some.ensures.some c.accept.ensures.come c.accept.ensures.same
