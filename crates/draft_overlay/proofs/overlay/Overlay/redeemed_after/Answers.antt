use Rattle.std.proofs.Common.{◌≡◌, ◌+◌, length, take, get_or, Some, if◌then◌else◌, arith, sym, ap, ap₂, ◌∙◌, subst}
use Rattle.std.proofs.lemmas.List.{length-take-le}
use Rattle.model_rows.specs.Kept.{IsKept}
use Rattle.model_rows.specs.Conditions.{is_in_force, names}
use Rattle.model_rows.specs.Lists.{order_at}
use Rattle.model_rows.specs.Usage.{uses}
use Rattle.draft_overlay.specs.Logs.{Log, AreSales, rows_at}
use Rattle.book_usage.specs.OfOrder.{count_ordered, if_stands}
use Rattle.draft_overlay.proofs.Holds.{byte_is}
use Rattle.draft_overlay.proofs.Kept.{kept_after_all}
use Rattle.draft_overlay.proofs.Redeems.{redeemed_put_order, redeemed_put_position, redeemed_other}
use Rattle.book_usage.proofs.Redeemed.{redeemed_le}
use Rattle.draft_overlay.proofs.overlay.Overlay.redeemed_after.Goals as goal

pub returns-in-PutOrder-clause-value : goal.returns-in-PutOrder-clause-value
returns-in-PutOrder-clause-value g c =
    let log = c.args.self.now in
    let now = c.get.result.now in
    let row = c.in-PutOrder.row in
    let lists = rows_at c.args.i log in
    let own = count_ordered row.id (λ p. names c.args.voucher p.voucher) lists in
    let read = ap (λ (l : Log). get_or l.changes c.args.i now) (sym c.self.view_is) ∙ sym c.get.ensures in
    let come : c.count_if-more.result ≡ if_stands is_in_force (Some row) own = c.count_if-more.ensures ∙ ap₂ (λ b n. if b then n else 0) c.is_in_force.ensures c.count_ordered-own.ensures.value in
    let gone : c.count_if-less.result ≡ if_stands is_in_force (order_at row.id lists) own = c.count_if-less.ensures ∙ ap₂ (λ b n. if b then n else 0) c.is_in_force_at.ensures c.count_ordered-own.ensures.value in
    omega (arith, redeemed_put_order c.args.voucher log c.args.i now c.requires.place row (read ∙ c.in-PutOrder.is), come, gone, c.requires.before, c.saturating_sub.ensures)

pub returns-in-PutOrder-clause-few : goal.returns-in-PutOrder-clause-few
returns-in-PutOrder-clause-few g c =
    let log = c.args.self.now in
    let next = take (c.args.i + 1) log.changes in
    let kept = kept_after_all 4294967296 next log.base (subst (λ (l : Log). IsKept 4294967296 l.base) c.self.view_is c.recall_invariant.ensures) in
    omega (arith, returns-in-PutOrder-clause-value g c, redeemed_le c.args.voucher (4294967296 + length next) (rows_at (c.args.i + 1) log) kept, length-take-le (c.args.i + 1) log.changes (omega (arith, c.requires.place)))

pub returns-in-PutPosition-clause-value : goal.returns-in-PutPosition-clause-value
returns-in-PutPosition-clause-value g c =
    let log = c.args.self.now in
    let now = c.get.result.now in
    let row = c.in-PutPosition.row in
    let read = ap (λ (l : Log). get_or l.changes c.args.i now) (sym c.self.view_is) ∙ sym c.get.ensures in
    let kept = kept_after_all 4294967296 (take c.args.i log.changes) log.base (subst (λ (l : Log). IsKept 4294967296 l.base) c.self.view_is c.recall_invariant.ensures) in
    let sales = subst (λ (l : Log). AreSales l.changes l.base) c.self.view_is c.self.invariant.sales in
    let come : c.from.result ≡ (if uses c.args.voucher (rows_at c.args.i log) row then 1 else 0) = c.from.ensures ∙ byte_is c.uses_at.result ∙ ap (λ b. if b then 1 else 0) c.uses_at.ensures in
    omega (arith, redeemed_put_position c.args.voucher log c.args.i now c.requires.place row (read ∙ c.in-PutPosition.is) kept.positions.in_order sales, come, c.requires.before)

pub returns-in_default : goal.returns-in_default
returns-in_default g c =
    let log = c.args.self.now in
    let now = c.get.result.now in
    let read = ap (λ (l : Log). get_or l.changes c.args.i now) (sym c.self.view_is) ∙ sym c.get.ensures in
    record {
      value = c.requires.before ∙ sym (redeemed_other c.args.voucher log c.args.i now c.requires.place (λ row is. c.in_default.not-PutOrder row (sym read ∙ is)) (λ row is. c.in_default.not-PutPosition row (sym read ∙ is)));
      few = omega (arith, c.requires.few);
    }
