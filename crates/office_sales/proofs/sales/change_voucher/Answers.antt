use Rattle.std.proofs.Common.{rules, Ok, ap, ◌∙◌}
use Rattle.model_rows.specs.Lists.{State}
use Rattle.office_step.specs.IsStep.{IsUndrawnStep}
use Rattle.office_step.specs.ShownRows.{show_voucher}
use Rattle.model_commands.specs.declared.replies.Shown.{Shown}
use Rattle.model_commands.specs.declared.replies.Reply.TheVariants.{Found}
use Rattle.model_commands.specs.declared.requests.Command.TheVariants.{ChangeVoucher}
use Rattle.office_sales.proofs.Vouchers.{changed_step, closed_with}
use Rattle.office_sales.proofs.sales.change_voucher.Goals.{in-Ok, in-Err-Memory, in-Err}
use Rattle.office_sales.proofs.sales.change_voucher.Goals as goal

pub returns : goal.returns
returns g c =
    let state : State = g.B.Book.state c.args.book.now in
    elim c.match-patch.branch [
      | in-Ok w ↦ closed_with c.args.at state.lists c.close.result c.match-patch.reply (Found (show_voucher state.lists w.in-Ok.row)) c.patch.new.draft (IsUndrawnStep (ChangeVoucher c.args.id c.args.patch.now) c.args.at state) c.close.ensures (w.reply-is ∙ ap (λ (s : Shown). Ok (Found s)) w.show_voucher.ensures)
          (λ made closed draw. changed_step c.args.id c.args.patch.now draw c.args.at state c.in_ok-draft.draft c.patch.new.draft w.in-Ok.row made c.in_ok-draft.ensures.draft w.in-Ok.ensures.extends w.in-Ok.ensures.done w.in-Ok.ensures.changes closed.list closed.next closed.deltas)
      | in-Err-Memory w ↦ search rules
      | in-Err w ↦ search rules
    ]
