use Rattle.std.proofs.Common.{◌≡◌, take, get_or, if◌then◌else◌, arith, sym, ap, ◌∙◌, subst}
use Rattle.model_rows.specs.Kept.{IsKept}
use Rattle.draft_overlay.specs.Logs.{Log}
use Rattle.draft_overlay.proofs.Holds.{byte_is, count_put, count_drop, count_other}
use Rattle.draft_overlay.proofs.Kept.{kept_after_all}
use Rattle.draft_overlay.proofs.overlay.Overlay.count_after.Goals as goal

pub returns-in-PutCart-clause-value : goal.returns-in-PutCart-clause-value
returns-in-PutCart-clause-value g c =
    let log = c.args.self.now in
    let now = c.get.result.now in
    let read = ap (λ (l : Log). get_or l.changes c.args.i now) (sym c.self.view_is) ∙ sym c.get.ensures in
    let kept = kept_after_all 4294967296 (take c.args.i log.changes) log.base (subst (λ (l : Log). IsKept 4294967296 l.base) c.self.view_is c.recall_invariant.ensures) in
    let come : c.from-come.result ≡ (if g.T.CartCondition.passes c.args.test.now c.in-PutCart.row then 1 else 0) = c.from-come.ensures ∙ byte_is c.passes.result ∙ ap (λ b. if b then 1 else 0) c.passes.ensures in
    omega (arith, count_put (g.T.CartCondition.passes c.args.test.now) log c.args.i now c.requires.place c.in-PutCart.row (read ∙ c.in-PutCart.is) kept.carts.in_order, come, c.requires.before, c.count_at-gone.ensures)

pub returns-in-DropCart-clause-value : goal.returns-in-DropCart-clause-value
returns-in-DropCart-clause-value g c =
    let log = c.args.self.now in
    let now = c.get.result.now in
    let read = ap (λ (l : Log). get_or l.changes c.args.i now) (sym c.self.view_is) ∙ sym c.get.ensures in
    let kept = kept_after_all 4294967296 (take c.args.i log.changes) log.base (subst (λ (l : Log). IsKept 4294967296 l.base) c.self.view_is c.recall_invariant.ensures) in
    omega (arith, count_drop (g.T.CartCondition.passes c.args.test.now) log c.args.i now c.requires.place c.in-DropCart.id (read ∙ c.in-DropCart.is) kept.carts.in_order, c.requires.before, c.count_at.ensures)

pub returns-in_default : goal.returns-in_default
returns-in_default g c =
    let log = c.args.self.now in
    let now = c.get.result.now in
    let read = ap (λ (l : Log). get_or l.changes c.args.i now) (sym c.self.view_is) ∙ sym c.get.ensures in
    record {
      value = c.requires.before ∙ sym (count_other (g.T.CartCondition.passes c.args.test.now) log c.args.i now c.requires.place (λ row is. c.in_default.not-PutCart row (sym read ∙ is)) (λ gone is. c.in_default.not-DropCart gone (sym read ∙ is)));
      few = omega (arith, c.requires.few);
    }
