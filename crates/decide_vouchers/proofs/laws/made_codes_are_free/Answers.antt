use Rattle.model_invariant.proofs.MadeCodes.{next_code_free}
use Rattle.decide_vouchers.proofs.laws.made_codes_are_free.Goals as goal

pub returns : goal.returns
returns c = next_code_free
