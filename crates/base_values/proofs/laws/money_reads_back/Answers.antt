use Rattle.base_values.proofs.MoneyLemmas.{reads_back}
use Rattle.base_values.proofs.laws.money_reads_back.Goals as goal

pub returns : goal.returns
returns c = reads_back
