use Rattle.std.proofs.Common.{◌≡◌, ℕ, take, count_by}
use Rattle.std.specs.Option.{option_copied}
use Rattle.model_catalogue.specs.declared.rows.Quota.{Quota}
use Rattle.model_catalogue.specs.Member.{is_in}
use Rattle.model_rows.specs.Usage.{is_covered_by, blocks_if}
use Rattle.draft_overlay.specs.Logs.{rows_of}
use Rattle.draft_counts.specs.CountDelta.{is_free_in}
use Rattle.draft_counts.proofs.orders.spots_of.Given as goal

-- the purchases that were reached have their places
abbrev pub invariant-loop-purchase : goal.invariant-loop-purchase
invariant-loop-purchase g l = record {
  here : (q : Quota) → count_by (λ s. is_in q s.product) l.spots.items ≡ count_by (λ t. is_in q t.product) (take l.purchase-index l.purchases);
  covered : (q : Quota) → (at : ℕ) → count_by (λ s. blocks_if at q (option_copied s.voucher)) l.spots.items ≡ count_by (λ t. is_covered_by (rows_of l.overlay) at q t.voucher) (take l.purchase-index l.purchases);
  released : (q : Quota) → count_by (λ s. is_free_in q s.product s.out) l.spots.items ≡ count_by (λ t. is_free_in q t.product t.out) (take l.purchase-index l.purchases);
}
