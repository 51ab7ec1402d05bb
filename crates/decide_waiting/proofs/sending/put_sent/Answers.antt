use Rattle.std.proofs.Common.{sym, subst}
use Rattle.draft_changes.specs.DraftState.{now}
use Rattle.model_rows.specs.declared.rows.Voucher.{Voucher}
use Rattle.model_rows.specs.Headroom.{HasHeadroom}
use Rattle.model_invariant.proofs.Fresh.{fresh_headroom}
use Rattle.decide_waiting.proofs.sending.put_sent.Goals as goal

pub put_voucher-requires : goal.put_voucher-requires
put_voucher-requires g c =
    let state = now c.args.draft.now in
    subst (λ (v : Voucher). HasHeadroom state.moment state.lists v) (sym c.in_ok-voucher.ensures) (fresh_headroom state.lists state.next.voucher c.requires.can.vouchers state.moment 1 c.requires.can.fit)
