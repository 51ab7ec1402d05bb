use Rattle.std.proofs.Common.{◌≡◌, None, Some, sym, ap, ◌∙◌, subst}
use Rattle.base_tables.specs.Tables.{AreInOrder}
use Rattle.model_rows.specs.declared.rows.Voucher.{Voucher}
use Rattle.model_rows.specs.Named.{voucher_of}
use Rattle.draft_overlay.specs.Logs.{Log}
use Rattle.draft_overlay.specs.Coded.{IsLeast, IsUnchanged}
use Rattle.draft_overlay.proofs.Coded.{none_unchanged, some_unchanged, unchanged_first}
use Rattle.draft_overlay.proofs.overlay.Overlay.unchanged_of.Goals as goal

pub returns-in_err-first : goal.returns-in_err-first
returns-in_err-first g c =
    let log = c.args.self.now in
    let order = subst (λ (l : Log). AreInOrder (λ (v : Voucher). v.id) l.base.vouchers) c.self.view_is c.recall_invariant.ensures.vouchers.in_order in
    let none : None ≡ voucher_of c.args.code.now log.base = c.in_err-first.ensures ∙ ap (λ (l : Log). voucher_of c.args.code.now l.base) c.self.view_is in
    subst (λ o. IsLeast (IsUnchanged c.args.code.now log) o) (sym c.from_residual.ensures) (none_unchanged c.args.code.now log order (sym none))

pub returns-then-is_unchanged : goal.returns-then-is_unchanged
returns-then-is_unchanged g c =
    let log = c.args.self.now in
    let order = subst (λ (l : Log). AreInOrder (λ (v : Voucher). v.id) l.base.vouchers) c.self.view_is c.recall_invariant.ensures.vouchers.in_order in
    let found : Some c.in_ok-first.first.now ≡ voucher_of c.args.code.now log.base = c.in_ok-first.ensures ∙ ap (λ (l : Log). voucher_of c.args.code.now l.base) c.self.view_is in
    some_unchanged c.args.code.now log c.in_ok-first.first.now order (sym found) (sym c.if-is_unchanged.ensures)

pub returns : goal.returns
returns g c =
    let log = c.args.self.now in
    let order = subst (λ (l : Log). AreInOrder (λ (v : Voucher). v.id) l.base.vouchers) c.self.view_is c.recall_invariant.ensures.vouchers.in_order in
    subst (λ o. IsLeast (IsUnchanged c.args.code.now log) o) (sym c.first_unchanged.ensures) (unchanged_first c.args.code.now log order)
