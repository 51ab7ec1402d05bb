use Rattle.draft_overlay.proofs.overlay.OverlayLookUps.entry.Goals as goal

pub returns : goal.returns
returns g c = rw (← c.self.view_is) (c.waiting_in.ensures _ c.entry.ensures)
