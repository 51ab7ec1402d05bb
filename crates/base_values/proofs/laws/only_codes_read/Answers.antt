use Rattle.base_values.proofs.CodeLemmas.{only_these}
use Rattle.base_values.proofs.laws.only_codes_read.Goals as goal

pub returns : goal.returns
returns c = only_these
