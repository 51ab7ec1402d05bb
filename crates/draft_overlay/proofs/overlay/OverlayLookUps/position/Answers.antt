use Rattle.draft_overlay.proofs.overlay.OverlayLookUps.position.Goals as goal

pub returns : goal.returns
returns g c = rw (← c.self.view_is) (c.position_in.ensures _ c.position.ensures)
