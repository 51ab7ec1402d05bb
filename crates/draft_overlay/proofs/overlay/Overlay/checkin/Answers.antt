use Rattle.draft_overlay.proofs.overlay.Overlay.checkin.Goals as goal

pub returns : goal.returns
returns g c = rw (← c.self.view_is) (c.checkin_in.ensures _ c.checkin.ensures)
