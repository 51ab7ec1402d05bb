use Rattle.std.proofs.Common.{◌≡◌, Bool, true, false, Some, None, sym, ap, ◌∙◌, arith}
use Rattle.std.specs.Prelude.{if◌then◌else◌}
use Rattle.model_catalogue.specs.declared.rows.Quota.{Quota}
use Rattle.model_rows.specs.Over.{is_over}
use Rattle.draft_counts.specs.Logs.{rows_of, rows_at}
use Rattle.draft_changes.proofs.Found.{found_here, found_past}
use Rattle.draft_changes.proofs.over.Weighing.over_at.Goals as goal

pub returns-then-quotas-place : goal.returns-then-quotas-place
returns-then-quotas-place g c =
    let w = c.args.self.now in
    let log = w.overlay.now in
    sym (found_past (λ q. q.id) (is_over (rows_at w.count log) (rows_of log) w.at w.own.now) w.quotas.now c.args.key (omega arith))

pub returns-then-is_over : goal.returns-then-is_over
returns-then-is_over g c =
    let w = c.args.self.now in
    let log = w.overlay.now in
    let quota = c.index-quotas-place.result in
    let passes = is_over (rows_at w.count log) (rows_of log) w.at w.own.now in
    let here = found_here (λ q. q.id) passes w.quotas.now c.args.key quota (omega arith) ∙ ap (λ (q : Quota). if passes q then Some q.id else None) (sym c.index-quotas-place.is) in
    let over : passes quota ≡ true = ap passes c.index-quotas-place.is ∙ sym (c.is_over.ensures quota) ∙ c.if-is_over.true in
    sym (here ∙ ap (λ (b : Bool). if b then Some quota.id else None) over ∙ ap (λ (q : Quota). Some q.id) c.index-quotas-place.is)

pub returns-else-is_over : goal.returns-else-is_over
returns-else-is_over g c =
    let w = c.args.self.now in
    let log = w.overlay.now in
    let quota = c.index-quotas-place.result in
    let passes = is_over (rows_at w.count log) (rows_of log) w.at w.own.now in
    let here = found_here (λ q. q.id) passes w.quotas.now c.args.key quota (omega arith) ∙ ap (λ (q : Quota). if passes q then Some q.id else None) (sym c.index-quotas-place.is) in
    let over : passes quota ≡ false = ap passes c.index-quotas-place.is ∙ sym (c.is_over.ensures quota) ∙ c.if-is_over.false in
    sym (here ∙ ap (λ (b : Bool). if b then Some quota.id else None) over)
