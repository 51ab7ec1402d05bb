-- The purchases of an order's positions.
use Rattle.std.proofs.Common.{◌≡◌, ℕ, Bool, true, false, ◌&&◌, eqb, List, [], ◌∷◌, map, refl, ◌∙◌, count_by, sum_by, arith}
use Rattle.std.specs.Prelude.{filter, if◌then◌else◌}
use Rattle.std.proofs.lemmas.List.Sums.{sum_by-cons}
use Rattle.model_rows.specs.declared.rows.OrderPos.{OrderPos}
use Rattle.model_rows.specs.Lists.{Lists}
use Rattle.draft_overlay.specs.declared.purchases.Purchase.{Purchase}
use Rattle.model_rows.proofs.Time.{one, same_sums}
use Rattle.draft_overlay.specs.Purchases.{purchase, ArePurchasesOf}
use Rattle.book_usage.specs.OfOrder.{count_ordered}

pub of_order : (lists : Lists) (order : ℕ) (weight : Purchase → ℕ) (rows : List OrderPos) → sum_by weight (map (purchase lists) (filter (λ p. eqb order p.order) rows)) ≡ sum_by (λ p. if eqb order p.order then weight (purchase lists p) else 0) rows
of_order lists order weight [] = refl
of_order lists order weight (p ∷ ps) =
    grind (arith, of_order lists order weight ps, sum_by-cons weight (purchase lists p) (map (purchase lists) (filter (λ q. eqb order q.order) ps)), sum_by-cons (λ q. if eqb order q.order then weight (purchase lists q) else 0) p ps)

-- of the order's positions as many pass as of its purchases, whatever the test
pub purchases_count : (order : ℕ) (lists : Lists) (purchases : List Purchase) → ArePurchasesOf order lists purchases → (passes : Purchase → Bool) → count_by passes purchases ≡ count_ordered order (λ p. passes (purchase lists p)) lists
purchases_count order lists purchases are passes =
    are (λ p. one (passes p))
    ∙ same_sums (λ p. if eqb order p.order then one (passes (purchase lists p)) else 0) (λ p. one (eqb order p.order && passes (purchase lists p))) lists.positions (λ p. both (eqb order p.order) (passes (purchase lists p)))
  where
    both : (a b : Bool) → (if a then one b else 0) ≡ one (a && b)
    both true b = refl
    both false b = refl
