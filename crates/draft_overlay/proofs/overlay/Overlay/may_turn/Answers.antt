use Rattle.std.proofs.Common.{◌≡◌, sym, ap, ◌∙◌, arith}
use Rattle.std.proofs.lemmas.Bool.Decides.{nat_tests}
use Rattle.book_usage.specs.Naming.{naming}
use Rattle.draft_overlay.specs.Logs.{Log}
use Rattle.draft_overlay.proofs.Still.{redeemed_still, unnamed_still}
use Rattle.draft_overlay.proofs.overlay.Overlay.may_turn.Goals as goal

pub returns-then-not-puts_orders : goal.returns-then-not-puts_orders
returns-then-not-puts_orders g c turns = redeemed_still c.args.voucher c.args.self.now.changes c.args.self.now.base (sym c.puts_orders.ensures ∙ c.if-not-puts_orders.true)

pub returns : goal.returns
returns g c turns =
    let log = c.args.self.now in
    let zero : c.naming.result ≡ 0 = grind (arith, nat_tests, turns) in
    let none : naming c.args.voucher log.base ≡ 0 = sym (ap (λ (l : Log). naming c.args.voucher l.base) c.self.view_is) ∙ sym c.naming.ensures.value ∙ zero in
    unnamed_still c.args.voucher log.changes log.base (sym c.puts_positions.ensures ∙ c.if-puts_positions.false) none
