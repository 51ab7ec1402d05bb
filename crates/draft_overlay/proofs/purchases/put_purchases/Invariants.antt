use Rattle.std.proofs.Common.{◌≡◌, ◌+◌, ℕ, eqb, take, sum_by}
use Rattle.std.specs.Prelude.{if◌then◌else◌}
use Rattle.draft_overlay.specs.declared.purchases.Purchase.{Purchase}
use Rattle.draft_overlay.specs.Purchases.{purchase, weighs}
use Rattle.draft_overlay.proofs.purchases.put_purchases.Given as goal

-- the purchases that the changes put that were reached are there
abbrev pub invariant-loop-i : goal.invariant-loop-i
invariant-loop-i g l = (weight : Purchase → ℕ) → sum_by weight l.purchases.items ≡ sum_by weight l.fn.purchases.items + sum_by (weighs (λ p. if eqb l.order p.order then weight (purchase (g.R.LookUps.rows l.rows) p) else 0)) (take l.i l.changes)
