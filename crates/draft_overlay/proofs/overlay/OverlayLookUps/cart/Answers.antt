use Rattle.draft_overlay.proofs.overlay.OverlayLookUps.cart.Goals as goal

pub returns : goal.returns
returns g c = rw (← c.self.view_is) (c.cart_in.ensures _ c.cart.ensures)
