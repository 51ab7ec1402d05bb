use Rattle.std.proofs.Common.{◌≡◌, ◌∷◌, ◌+◌, sym, ap, ◌∙◌, drop}
use Rattle.std.proofs.lemmas.List.{drop_more}
use Rattle.draft_changes.specs.DraftState.{now}
use Rattle.draft_changes.proofs.Extensions.{extends_both}
use Rattle.model_commands.specs.declared.vouchers.NewVoucher.{NewVoucher}
use Rattle.decide_vouchers.proofs.Imports.{row_joined, changes_more}
use Rattle.decide_vouchers.proofs.importing.import_rows.Goals as goal

pub loop-row-preserved : goal.loop-row-preserved
loop-row-preserved g c =
    let i = c.loop-row.row-index in
    let row = c.row-item.result in
    let all = c.args.rows.now in
    let before = now c.loop-row.draft in
    let after = now c.import_row.new.draft in
    let left : drop i all ≡ row ∷ drop (i + 1) all = drop_more all i row c.loop-row-test.true ∙ ap (λ (r : NewVoucher). r ∷ drop (i + 1) all) (sym c.row-item.is) in
    let inv = c.loop-row.invariant in
    let made = c.in_ok-import_row.ensures.done in
    record {
      rest = row_joined c.loop-row.verdicts.items c.push.new.self.items c.in_ok-import_row.field-0 row (drop i all) (drop (i + 1) all) c.args.draw before after left made c.in_ok-push.ensures.items ∙ inv.rest;
      changes = changes_more c.args.draft.now.log.changes c.loop-row.draft.log.changes c.import_row.new.draft.log.changes c.loop-row.verdicts.items c.push.new.self.items c.in_ok-import_row.field-0 inv.changes c.in_ok-import_row.ensures.changes c.in_ok-push.ensures.items;
      extends = extends_both inv.extends c.in_ok-import_row.ensures.extends;
    }
