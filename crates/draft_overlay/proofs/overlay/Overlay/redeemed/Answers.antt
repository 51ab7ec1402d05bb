use Rattle.std.proofs.Common.{sym, ap, ◌∙◌}
use Rattle.model_rows.specs.Usage.{redeemed}
use Rattle.draft_overlay.specs.Logs.{Log}
use Rattle.draft_overlay.proofs.overlay.Overlay.redeemed.Goals as goal

pub returns-then-not-may_turn-clause-value : goal.returns-then-not-may_turn-clause-value
returns-then-not-may_turn-clause-value g c =
    c.redeemed-count.ensures.value ∙ ap (λ (l : Log). redeemed c.args.voucher l.base) c.self.view_is ∙ sym (c.may_turn.ensures c.if-not-may_turn.true)
