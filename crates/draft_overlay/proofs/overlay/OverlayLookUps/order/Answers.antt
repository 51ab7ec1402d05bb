use Rattle.draft_overlay.proofs.overlay.OverlayLookUps.order.Goals as goal

pub returns : goal.returns
returns g c = rw (← c.self.view_is) (c.order_in.ensures _ c.order.ensures)
