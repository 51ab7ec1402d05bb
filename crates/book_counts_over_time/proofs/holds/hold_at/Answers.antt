use Rattle.std.proofs.Common.{ℕ, false, sym, ap, ◌∙◌, map, take}
use Rattle.model_rows.specs.Headroom.{held}
use Rattle.model_rows.specs.Lists.{cart_at}
use Rattle.book_counts_over_time.specs.Held.{named_by}
use Rattle.book_counts_over_time.specs.Redemptions.{turn_each}
use Rattle.book_counts_over_time.proofs.HoldLemmas.{held_ended}
use Rattle.book_counts_over_time.proofs.UsageUpdateLemmas.{same_map}
use Rattle.book_counts_over_time.proofs.RedemptionLemmas.{pushed, all_taken}
use Rattle.book_counts_over_time.proofs.holds.hold_at.Goals as goal

pub loop-place-preserved : goal.loop-place-preserved
loop-place-preserved c =
    let lists = c.args.store.now.state.lists in
    let at = c.args.store.now.state.moment in
    let es = c.carts_due-ids.result in
    let f = λ (i : ℕ). named_by (cart_at i c.args.store.now.state.lists) in
    let s = λ (n : ℕ). held c.args.store.now.state.moment n c.args.store.now.state.lists in
    let name = c.name_at-name.ensures ∙ ap (λ (x : ℕ). named_by (cart_at x c.args.store.now.state.lists)) (sym (c.at.ensures 0)) in
    let lt = rw c.len-place-end.ensures at c.loop-place-test.true in
    let redemptions = rw c.vouchers.ensures at c.turn_one.ensures.counts (turn_each false (map f (take c.loop-place.place es)) s) in
    record {
      done = redemptions c.loop-place.invariant.done ∙ ap (λ (g : ℕ → ℕ). map (λ v. g v.id) lists.vouchers) (pushed false s c.name_at-name.result f es c.loop-place.place 0 lt name);
      same = c.turn_one.ensures.same ∙ c.loop-place.invariant.same;
      whole = c.turn_one.ensures.same ∙ c.loop-place.invariant.whole;
      room = c.turn_one.ensures.room ∙ c.loop-place.invariant.room;
    }

pub returns-clause-held : goal.returns-clause-held
returns-clause-held c =
    let lists = c.args.store.now.state.lists in
    let from = c.args.store.now.state.moment in
    let es = c.carts_due-ids.result in
    let f = λ (i : ℕ). named_by (cart_at i c.args.store.now.state.lists) in
    let s = λ (n : ℕ). held c.args.store.now.state.moment n c.args.store.now.state.lists in
    let le = rw c.len-place-end.ensures at c.loop-place-test.false in
    let finds = rw c.moment.ensures at c.carts_due-ids.ensures.finds in
    c.loop-place.invariant.done
    ∙ same_map (λ v. turn_each false (map f (take c.loop-place.place es)) s v.id) (λ v. held c.args.at v.id lists) lists.vouchers
    (λ v. ap (λ (g : ℕ → ℕ). g v.id) (all_taken false s f es c.loop-place.place le) ∙ held_ended lists from c.args.at v.id c.requires.moment es finds)

pub returns-clause-stays : goal.returns-clause-stays
returns-clause-stays c = record { room = c.loop-place.invariant.room; same = c.loop-place.invariant.whole }
