use Rattle.decide_vouchers.proofs.Deleted.{deleted_lowers}
use Rattle.decide_vouchers.proofs.laws.deleting_lowers.Goals as goal

pub returns : goal.returns
returns c = λ id before after quota. deleted_lowers id before after quota
