use Rattle.std.proofs.Common.{sym, ap, ◌∙◌}
use Rattle.book_usage.specs.Naming.{naming}
use Rattle.draft_overlay.specs.Logs.{Log}
use Rattle.draft_overlay.proofs.Still.{naming_still}
use Rattle.draft_overlay.proofs.overlay.Overlay.naming.Goals as goal

pub returns-then-not-touches_names : goal.returns-then-not-touches_names
returns-then-not-touches_names g c =
    let log = c.args.self.now in
    let none = sym c.touches_names.ensures ∙ c.if-not-touches_names.true in
    c.naming-count.ensures.value ∙ ap (λ (l : Log). naming c.args.voucher l.base) c.self.view_is ∙ sym (naming_still c.args.voucher log.changes log.base none)
