use Rattle.decide_door.proofs.Added.{added_used}
use Rattle.decide_door.proofs.Places.{kept_used, exit_used, entry_used, inside_used}
use Rattle.decide_door.proofs.laws.scans_move_only_released_places.Goals as goal

pub returns-clause-added : goal.returns-clause-added
returns-clause-added c = added_used

pub returns-clause-kept : goal.returns-clause-kept
returns-clause-kept c = λ s quota sound. kept_used s.list s.ticket s.scan s.before s.after s.position sound s.passed quota

pub returns-clause-exits : goal.returns-clause-exits
returns-clause-exits c = λ s quota sound. exit_used s.list s.ticket s.scan s.before s.after s.position sound s.passed quota

pub returns-clause-entries : goal.returns-clause-entries
returns-clause-entries c = λ s quota sound entry. entry_used s.list s.ticket s.scan s.before s.after s.position sound s.passed quota

pub returns-clause-inside : goal.returns-clause-inside
returns-clause-inside c = λ s quota sound. inside_used s.list s.ticket s.scan s.before s.after s.position sound s.passed quota
