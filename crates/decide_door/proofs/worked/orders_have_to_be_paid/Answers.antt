use Rattle.std.proofs.Common.{refl}
use Rattle.model_rows.specs.Passages.{later}
use Rattle.decide_door.specs.Verdict.{verdict}
use Rattle.decide_door.specs.Scanned.{ticket_scanned}
use Rattle.decide_door.proofs.worked.orders_have_to_be_paid.Goals as goal

pub returns-clause-pending : goal.returns-clause-pending
unfolding ticket_scanned verdict later
returns-clause-pending c = refl

pub returns-clause-ignored : goal.returns-clause-ignored
unfolding ticket_scanned verdict later
returns-clause-ignored c = refl

pub returns-clause-not_included : goal.returns-clause-not_included
unfolding ticket_scanned verdict later
returns-clause-not_included c = refl

pub returns-clause-forced : goal.returns-clause-forced
unfolding ticket_scanned verdict later
returns-clause-forced c = refl

pub returns-clause-other_list : goal.returns-clause-other_list
unfolding ticket_scanned verdict later
returns-clause-other_list c = refl

pub returns-clause-cancelled : goal.returns-clause-cancelled
unfolding ticket_scanned verdict later
returns-clause-cancelled c = refl

pub returns-clause-twice : goal.returns-clause-twice
unfolding ticket_scanned verdict later
returns-clause-twice c = refl
