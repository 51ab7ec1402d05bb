use Rattle.std.proofs.Common.{refl}
use Rattle.model_rows.specs.Passages.{later}
use Rattle.decide_door.specs.Belongs.{belongs}
use Rattle.decide_door.specs.Status.{status_of, ticket_of}
use Rattle.decide_door.proofs.worked.the_last_goes_by_its_moment.Goals as goal

pub returns-clause-uploaded : goal.returns-clause-uploaded
unfolding status_of ticket_of belongs later
returns-clause-uploaded c = refl

pub returns-clause-together : goal.returns-clause-together
unfolding status_of ticket_of belongs later
returns-clause-together c = refl

pub returns-clause-page : goal.returns-clause-page
unfolding status_of ticket_of belongs later
returns-clause-page c = refl
