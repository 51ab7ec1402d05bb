use Rattle.std.proofs.Common.{count_by, ap, ap₂, ◌∙◌, arith}
use Rattle.std.proofs.lemmas.List.{take_all}
use Rattle.std.specs.Option.{option_copied}
use Rattle.model_catalogue.specs.Member.{is_in}
use Rattle.model_rows.specs.Usage.{is_covered_by, blocks_if}
use Rattle.draft_overlay.specs.declared.purchases.Purchase.{Purchase}
use Rattle.draft_overlay.specs.Logs.{rows_of}
use Rattle.draft_counts.specs.declared.shift.Spot.{Spot}
use Rattle.draft_counts.specs.CountDelta.{is_free_in}
use Rattle.draft_counts.proofs.Values.{pushed_count}
use Rattle.draft_counts.proofs.orders.spots_of.Goals as goal

pub loop-purchase-preserved : goal.loop-purchase-preserved
loop-purchase-preserved g c =
    let purchases = c.args.purchases.now in
    let i = c.loop-purchase.purchase-index in
    let spots = c.loop-purchase.spots.items in
    record {
      here = λ q.
          ap (λ l. count_by (λ (s : Spot). is_in q s.product) l) c.in_ok-push.ensures.items
          ∙ pushed_count (λ (s : Spot). is_in q s.product) (λ (t : Purchase). is_in q t.product) spots purchases i _ c.purchase-item.result (omega arith) c.purchase-item.is (ap (is_in q) c.spot_of.ensures.product) (c.loop-purchase.invariant.here q);
      covered = λ q at.
          ap (λ l. count_by (λ (s : Spot). blocks_if at q (option_copied s.voucher)) l) c.in_ok-push.ensures.items
          ∙ pushed_count (λ (s : Spot). blocks_if at q (option_copied s.voucher)) (λ (t : Purchase). is_covered_by (rows_of c.args.overlay.now) at q t.voucher) spots purchases i _ c.purchase-item.result (omega arith) c.purchase-item.is (c.spot_of.ensures.covered q at) (c.loop-purchase.invariant.covered q at);
      released = λ q.
          ap (λ l. count_by (λ (s : Spot). is_free_in q s.product s.out) l) c.in_ok-push.ensures.items
          ∙ pushed_count (λ (s : Spot). is_free_in q s.product s.out) (λ (t : Purchase). is_free_in q t.product t.out) spots purchases i _ c.purchase-item.result (omega arith) c.purchase-item.is (ap₂ (is_free_in q) c.spot_of.ensures.product c.spot_of.ensures.out) (c.loop-purchase.invariant.released q);
    }

pub returns-clause-here : goal.returns-clause-here
returns-clause-here g c q = c.loop-purchase.invariant.here q ∙ ap (count_by (λ (t : Purchase). is_in q t.product)) (take_all c.loop-purchase.purchase-index c.args.purchases.now (omega arith))

pub returns-clause-covered : goal.returns-clause-covered
returns-clause-covered g c q at = c.loop-purchase.invariant.covered q at ∙ ap (count_by (λ (t : Purchase). is_covered_by (rows_of c.args.overlay.now) at q t.voucher)) (take_all c.loop-purchase.purchase-index c.args.purchases.now (omega arith))

pub returns-clause-released : goal.returns-clause-released
returns-clause-released g c q = c.loop-purchase.invariant.released q ∙ ap (count_by (λ (t : Purchase). is_free_in q t.product t.out)) (take_all c.loop-purchase.purchase-index c.args.purchases.now (omega arith))
