use Rattle.std.proofs.Common.{ap, ◌∙◌, count_by, arith}
use Rattle.model_rows.specs.Conditions.{names}
use Rattle.decide_orders.proofs.MoveLemmas.{uses_more}
use Rattle.draft_changes.specs.DraftState.{now}
use Rattle.decide_orders.proofs.moves.uses_again.Goals as goal

pub returns : goal.returns
returns g c =
    let named = c.named_by.ensures ∙ ap (λ ps. count_by (λ p. names c.args.voucher p.voucher) ps) c.requires.positions in
    omega (arith, uses_more c.args.row.now (now c.args.draft.now).lists c.args.draft.now.moment c.args.voucher c.requires.again.ended c.requires.again.back, named, c.uses.ensures.value)
