use Rattle.book_log.specs.Places.{number}
use Rattle.book_log.proofs.EarlierPlaces.{IsLater, height}
use Rattle.book_log.proofs.change_log.ChangeLog.last_before.Given as goal

abbrev pub invariant-earlier : goal.invariant-earlier
invariant-earlier l = IsLater (number l.fn.table) l.id l.self l.count l.found

abbrev pub decreases-earlier : goal.decreases-earlier
decreases-earlier l = height l.found
