use Rattle.std.proofs.Common.{refl}
use Rattle.model_rows.specs.Passages.{later}
use Rattle.decide_door.specs.Verdict.{verdict}
use Rattle.decide_door.specs.Scanned.{ticket_scanned}
use Rattle.decide_door.proofs.worked.a_ticket_enters_once.Goals as goal

pub returns-clause-enters : goal.returns-clause-enters
unfolding ticket_scanned verdict later
returns-clause-enters c = refl

pub returns-clause-again : goal.returns-clause-again
unfolding ticket_scanned verdict later
returns-clause-again c = refl

pub returns-clause-another : goal.returns-clause-another
unfolding ticket_scanned verdict later
returns-clause-another c = refl

pub returns-clause-leaves : goal.returns-clause-leaves
unfolding ticket_scanned verdict later
returns-clause-leaves c = refl

pub returns-clause-stays_out : goal.returns-clause-stays_out
unfolding ticket_scanned verdict later
returns-clause-stays_out c = refl

pub returns-clause-comes_back : goal.returns-clause-comes_back
unfolding ticket_scanned verdict later
returns-clause-comes_back c = refl

pub returns-clause-unknown : goal.returns-clause-unknown
unfolding ticket_scanned verdict later
returns-clause-unknown c = refl
