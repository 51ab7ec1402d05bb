use Rattle.base_values.proofs.CodeLemmas.{reads_back}
use Rattle.base_values.proofs.laws.codes_read_back.Goals as goal

pub returns : goal.returns
returns c = reads_back
