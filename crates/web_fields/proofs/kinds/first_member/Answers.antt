use Rattle.web_fields.proofs.Values.{first_is}
use Rattle.web_fields.proofs.kinds.first_member.Goals as goal

pub returns-in-Some : goal.returns-in-Some
returns-in-Some c = first_is _ _ _ c.in-Some.ensures.first
