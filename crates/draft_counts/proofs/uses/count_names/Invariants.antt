use Rattle.std.proofs.Common.{take}
use Rattle.draft_counts.specs.Counts.{AreMoreUses}
use Rattle.draft_counts.specs.Uses.{purchase_uses}
use Rattle.draft_counts.proofs.uses.count_names.Given as goal

-- the uses of the purchases that were reached are counted
abbrev pub invariant-loop-i : goal.invariant-loop-i
invariant-loop-i l = AreMoreUses (purchase_uses l.force l.stood (take l.i l.purchases)) (purchase_uses l.stood l.force (take l.i l.purchases)) l.fn.uses l.uses
