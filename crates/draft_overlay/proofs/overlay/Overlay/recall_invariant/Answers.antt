use Rattle.draft_overlay.proofs.Kept.{kept_after_all}
use Rattle.draft_overlay.proofs.overlay.Overlay.recall_invariant.Goals as goal

pub returns-clause-kept : goal.returns-clause-kept
returns-clause-kept g c = rw (← c.self.view_is) (kept_after_all _ _ _ c.recall_invariant.ensures)
