use Rattle.draft_overlay.proofs.overlay.Overlay.order_at.Goals as goal

pub returns : goal.returns
returns g c = rw (← c.self.view_is) (c.order_after.ensures _ c.order.ensures)
