use Rattle.file_capacity.proofs.TakenLemmas.{all_taken}
use Rattle.file_capacity.proofs.laws.a_file_takes_what_a_step_changes.Goals as goal

pub returns : goal.returns
returns c = all_taken
