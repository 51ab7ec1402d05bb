use Rattle.office_runs.proofs.BulkRuns.{entries_all}
use Rattle.office_runs.proofs.laws.bulk_calls_run_their_entries.Goals as goal

pub returns : goal.returns
returns c = entries_all
