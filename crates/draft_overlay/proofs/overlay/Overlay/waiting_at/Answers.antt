use Rattle.draft_overlay.proofs.overlay.Overlay.waiting_at.Goals as goal

pub returns : goal.returns
returns g c = rw (← c.self.view_is) (c.waiting_after.ensures _ c.entry.ensures)
