use Rattle.draft_overlay.proofs.overlay.Overlay.cart_at.Goals as goal

pub returns : goal.returns
returns g c = rw (← c.self.view_is) (c.cart_after.ensures _ c.cart.ensures)
