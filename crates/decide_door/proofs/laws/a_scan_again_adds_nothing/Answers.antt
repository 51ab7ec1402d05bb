use Rattle.decide_door.proofs.Again.{scan_stores, stays_stored, scan_repeated}
use Rattle.decide_door.proofs.laws.a_scan_again_adds_nothing.Goals as goal

pub returns-clause-stores : goal.returns-clause-stores
returns-clause-stores c = λ s given. scan_stores s.list s.ticket s.scan s.before s.after s.position given s.passed

pub returns-clause-stays : goal.returns-clause-stays
returns-clause-stays c = λ s list position scan sound stored. stays_stored s.list s.ticket s.scan s.before s.after s.position list position scan.nonce stored s.passed sound

pub returns-clause-again : goal.returns-clause-again
returns-clause-again c = λ s later listed shown good stored. scan_repeated s.list s.ticket s.scan s.before s.after later s.position s.passed listed shown good stored
