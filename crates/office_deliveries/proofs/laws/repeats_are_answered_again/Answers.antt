use Rattle.office_deliveries.proofs.Again.{told_again}
use Rattle.office_deliveries.proofs.laws.repeats_are_answered_again.Goals as goal

pub returns : goal.returns
returns c = λ words t. told_again words t.opening t.before t.earlier t.between t.later
