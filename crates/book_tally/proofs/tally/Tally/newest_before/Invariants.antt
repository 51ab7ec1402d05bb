use Rattle.book_tally.proofs.Earlier.{IsLater, height}
use Rattle.book_tally.proofs.tally.Tally.newest_before.Given as goal

abbrev pub invariant-earlier : goal.invariant-earlier
invariant-earlier g l = IsLater l.key l.self l.mark l.found

abbrev pub decreases-earlier : goal.decreases-earlier
decreases-earlier g l = height l.found
