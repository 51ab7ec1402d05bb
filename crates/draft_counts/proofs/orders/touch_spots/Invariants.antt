use Rattle.std.proofs.Common.{ℕ, take, count_by}
use Rattle.std.specs.Option.{option_copied}
use Rattle.model_catalogue.specs.Member.{is_in}
use Rattle.model_rows.specs.Usage.{blocks_if}
use Rattle.draft_counts.specs.Touched.{NoneElse}
use Rattle.draft_counts.proofs.orders.touch_spots.Given as goal

-- no other quota has a place of those that were reached, nor is one of its places blocked by their vouchers
abbrev pub invariant-loop-spot : goal.invariant-loop-spot
invariant-loop-spot l = record {
  here : NoneElse 0 l.ids.items l.catalogue.lists (λ q. count_by (λ s. is_in q s.product) (take l.spot-index l.spots));
  covered : (at : ℕ) → NoneElse 0 l.ids.items l.catalogue.lists (λ q. count_by (λ s. blocks_if at q (option_copied s.voucher)) (take l.spot-index l.spots));
}
