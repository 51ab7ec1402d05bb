use Rattle.std.proofs.Common.{ap, ◌∙◌}
use Rattle.draft_counts.specs.CountDelta.{usage_of_places}
use Rattle.draft_counts.proofs.Reached.{none_else_more}
use Rattle.draft_counts.proofs.Sums.{none_placed}
use Rattle.draft_counts.proofs.shift.SpotsShare.touch.Goals as goal

pub returns-clause-come : goal.returns-clause-come
returns-clause-come c q other =
    let spots = c.args.self.now in
    ap (usage_of_places spots.waits) (none_else_more 0 c.touch_spot.new.ids.items c.touch_spot-2.new.ids.items c.args.catalogue.now.lists _ c.in_ok-touch_spot-2.ensures.keeps (c.in_ok-touch_spot.ensures.more spots.at) q other) ∙ none_placed spots.waits

pub returns-clause-gone : goal.returns-clause-gone
returns-clause-gone c q other =
    let spots = c.args.self.now in
    ap (usage_of_places spots.waits) (c.in_ok-touch_spot-2.ensures.more spots.at q other) ∙ none_placed spots.waits
