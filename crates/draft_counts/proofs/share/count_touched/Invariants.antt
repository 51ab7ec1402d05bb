use Rattle.std.proofs.Common.{take}
use Rattle.draft_counts.specs.Counts.{IsMore}
use Rattle.draft_counts.specs.Touched.{among}
use Rattle.draft_counts.proofs.share.count_touched.Given as goal

-- what the quotas of the ids that were reached bring and take is counted
abbrev pub invariant-loop-i : goal.invariant-loop-i
invariant-loop-i g l = IsMore (among (take l.i l.ids) (g.S.Share.come l.share)) (among (take l.i l.ids) (g.S.Share.gone l.share)) l.quotas l.fn.counts l.counts
