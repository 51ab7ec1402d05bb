use Rattle.std.proofs.Common.{count_by, sym, ap, ◌∙◌, arith}
use Rattle.std.proofs.lemmas.List.{take_all}
use Rattle.std.specs.Option.{option_copied}
use Rattle.model_catalogue.specs.declared.rows.Quota.{Quota}
use Rattle.model_catalogue.specs.Member.{is_in}
use Rattle.model_rows.specs.Usage.{blocks_if}
use Rattle.draft_counts.specs.declared.shift.Spot.{Spot}
use Rattle.draft_counts.proofs.Reached.{no_more_pass}
use Rattle.draft_counts.proofs.orders.touch_spots.Goals as goal

pub loop-spot-preserved : goal.loop-spot-preserved
loop-spot-preserved c =
    let spots = c.args.spots.now in
    let lists = c.args.catalogue.now.lists in
    let i = c.loop-spot.spot-index in
    record {
      here = no_more_pass (λ (q : Quota) (s : Spot). is_in q s.product) spots i c.spot-item.result c.loop-spot.ids.items c.touch_both.new.ids.items lists (omega arith) c.spot-item.is c.in_ok-touch_both.ensures.keeps c.loop-spot.invariant.here c.in_ok-touch_both.ensures.here;
      covered = λ at. no_more_pass (λ (q : Quota) (s : Spot). blocks_if at q (option_copied s.voucher)) spots i c.spot-item.result c.loop-spot.ids.items c.touch_both.new.ids.items lists (omega arith) c.spot-item.is c.in_ok-touch_both.ensures.keeps (c.loop-spot.invariant.covered at) (c.in_ok-touch_both.ensures.covered at);
    }

pub returns-clause-covered : goal.returns-clause-covered
returns-clause-covered c at q other = sym (ap (count_by (λ (s : Spot). blocks_if at q (option_copied s.voucher))) (take_all c.loop-spot.spot-index c.args.spots.now (omega arith))) ∙ c.loop-spot.invariant.covered at q other
