use Rattle.draft_overlay.proofs.overlay.Overlay.checkin_list.Goals as goal

pub returns : goal.returns
returns g c = rw (← c.self.view_is) (c.checkin_list_in.ensures _ c.checkin_list.ensures)
