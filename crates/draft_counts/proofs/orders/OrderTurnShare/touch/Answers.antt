use Rattle.std.proofs.Common.{Some, option_copied, ◌∙◌}
use Rattle.draft_counts.proofs.Sums.{none_ordered, same_counts}
use Rattle.draft_counts.proofs.Releases.{none_free}
use Rattle.draft_counts.proofs.orders.OrderTurnShare.touch.Goals as goal

pub returns-clause-come : goal.returns-clause-come
returns-clause-come c q other =
    let turn = c.args.self.now in
    let here = rw c.deref.ensures.value at c.in_ok-touch_spots.ensures.here in
    let covered = rw c.deref.ensures.value at c.in_ok-touch_spots.ensures.covered in
    same_counts (Some turn.come.now) (option_copied turn.gone) (here q other) (covered turn.at q other) (none_free q turn.spots.items (here q other)) ∙ none_ordered (Some turn.come.now) (option_copied turn.gone)

pub returns-clause-gone : goal.returns-clause-gone
returns-clause-gone c q other =
    let turn = c.args.self.now in
    let here = rw c.deref.ensures.value at c.in_ok-touch_spots.ensures.here in
    let covered = rw c.deref.ensures.value at c.in_ok-touch_spots.ensures.covered in
    same_counts (option_copied turn.gone) (Some turn.come.now) (here q other) (covered turn.at q other) (none_free q turn.spots.items (here q other)) ∙ none_ordered (option_copied turn.gone) (Some turn.come.now)
