use Rattle.draft_overlay.proofs.CodeKeys.{IsWalked}
use Rattle.book_log.proofs.EarlierPlaces.{height}
use Rattle.draft_overlay.proofs.overlay.Overlay.put_of.Given as goal

-- the least of those that the changes from here on put
abbrev pub invariant-earlier : goal.invariant-earlier
invariant-earlier g l = IsWalked l.code l.self l.found l.least

abbrev pub decreases-earlier : goal.decreases-earlier
decreases-earlier g l = height l.found
