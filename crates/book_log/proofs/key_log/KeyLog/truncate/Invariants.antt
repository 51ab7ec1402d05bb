use Rattle.std.proofs.Common.{◌≡◌, take, length}
use Rattle.book_log.proofs.key_log.KeyLog.truncate.Given as goal

abbrev pub invariant-back : goal.invariant-back
invariant-back l = take l.count l.self ≡ take l.count l.fn.self

abbrev pub decreases-back : goal.decreases-back
decreases-back l = length l.self
