use Rattle.draft_overlay.proofs.overlay.OverlayLookUps.voucher.Goals as goal

pub returns : goal.returns
returns g c = rw (← c.self.view_is) (c.voucher_in.ensures _ c.voucher.ensures)
