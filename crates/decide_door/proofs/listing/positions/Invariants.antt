use Rattle.std.proofs.Common.{◌≡◌, [], drop}
use Rattle.decide_door.specs.Belongs.{belongs}
use Rattle.decide_door.specs.Status.{ticket_of, part}
use Rattle.decide_door.proofs.listing.positions.Given as goal

-- the tickets so far and those of what is left
abbrev pub invariant-loop-position : goal.invariant-loop-position
invariant-loop-position g l =
    let lists = (g.B.Book.state l.fn.book).lists in
    part (ticket_of l.fn.list lists) (belongs l.fn.list lists) l.rows.items l.skip l.most (drop l.position-index lists.positions) ≡ part (ticket_of l.fn.list lists) (belongs l.fn.list lists) [] l.fn.skip l.fn.most lists.positions
