use Rattle.office_deliveries.proofs.Words.{runs-in, acts-in, stands-from-there}
use Rattle.office_deliveries.proofs.laws.shops_run_in_any_words.Goals as goal

pub returns-clause-runs : goal.returns-clause-runs
returns-clause-runs g c = runs-in g.T.Tables.holds g.T.Tables.may_leave

pub returns-clause-acts : goal.returns-clause-acts
returns-clause-acts g c = acts-in g.T.Tables.holds g.T.Tables.may_leave

pub returns-clause-stands : goal.returns-clause-stands
returns-clause-stands g c = stands-from-there
