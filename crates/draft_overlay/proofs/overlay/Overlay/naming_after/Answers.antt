use Rattle.std.proofs.Common.{◌≡◌, take, get_or, if◌then◌else◌, arith, ap, ◌∙◌, subst}
use Rattle.model_rows.specs.Kept.{IsKept}
use Rattle.draft_overlay.specs.Logs.{Log, AreSales, rows_at}
use Rattle.draft_overlay.specs.Names.{name_put, name_gone}
use Rattle.draft_overlay.proofs.Holds.{byte_is}
use Rattle.draft_overlay.proofs.Kept.{kept_after_all}
use Rattle.draft_overlay.proofs.Names.{one_name, naming_more}
use Rattle.draft_overlay.proofs.overlay.Overlay.naming_after.Goals as goal

pub returns-clause-value : goal.returns-clause-value
returns-clause-value g c =
    let log = c.args.self.now in
    let now = c.get-change.result.now in
    let voucher = c.args.voucher in
    let change = get_or log.changes c.args.i now in
    let read : now ≡ change = c.get-change.ensures ∙ ap (λ (l : Log). get_or l.changes c.args.i now) c.self.view_is in
    let kept = kept_after_all 4294967296 (take c.args.i log.changes) log.base (subst (λ (l : Log). IsKept 4294967296 l.base) c.self.view_is c.recall_invariant.ensures) in
    let sales = subst (λ (l : Log). AreSales l.changes l.base) c.self.view_is c.self.invariant.sales in
    let come : c.from-come.result ≡ one_name voucher (name_put change) =
    c.from-come.ensures ∙ byte_is c.is_name.result ∙ ap (λ b. if b then 1 else 0) c.is_name.ensures ∙ ap (one_name voucher) (c.name_put.ensures ∙ ap name_put read) in
    let gone : c.from-gone.result ≡ one_name voucher (name_gone (rows_at c.args.i log) change) =
    c.from-gone.ensures ∙ byte_is c.is_name-2.result ∙ ap (λ b. if b then 1 else 0) c.is_name-2.ensures ∙ ap (one_name voucher) (c.name_gone.ensures ∙ ap (name_gone (rows_at c.args.i log)) read) in
    omega (arith, naming_more voucher _ log c.args.i now c.requires.place kept sales, come, gone, c.requires.before, c.saturating_sub.ensures)
