use Rattle.std.proofs.Common.{List, refl, ap, ◌∙◌, arith}
use Rattle.std.specs.Prelude.{◌==◌, ◌&&◌, filter}
use Rattle.model_rows.specs.declared.rows.Checkin.{Checkin}
use Rattle.model_rows.specs.Conditions.{names}
use Rattle.book_indexes.specs.Keys.{checkin_keys}
use Rattle.book_store.proofs.Listed.{one_more, no_more, rows_found, filter_splits, filter_found}
use Rattle.book_store.proofs.Waits.{found_checkin}
use Rattle.book_store.proofs.store.Store.checkins_of.Goals as goal

pub loop-place-preserved : goal.loop-place-preserved
loop-place-preserved c =
    one_more (λ r. r.id) c.args.self.now.state.lists.checkins (λ (l : List Checkin). filter (λ r. r.list == c.args.list && r.position == c.args.position) l) c.in_group-ids.result c.loop-place.place _
    _ c.loop-place.invariant c.at.result _ (filter_splits (λ r. r.list == c.args.list && r.position == c.args.position)) (omega (arith, c.len-place-end.ensures, c.loop-place-test.true)) c.at.ensures
    c.in_ok-push_checkin.ensures

pub returns : goal.returns
returns c =
    c.new.ensures
    ∙ no_more (λ r. r.id) c.args.self.now.state.lists.checkins (λ (l : List Checkin). filter (λ r. r.list == c.args.list && r.position == c.args.position) l) c.in_group-ids.result c.loop-place.place _ _ c.loop-place.invariant (omega (arith, c.len-place-end.ensures, c.loop-place-test.false)) refl
    ∙ ap (filter (λ (r : Checkin). r.list == c.args.list && r.position == c.args.position)) (rows_found (λ r. r.id) c.args.self.now.state.lists.checkins (λ (r : Checkin). names c.pair.result (checkin_keys r).group) c.in_group-ids.result c.recall_invariant.ensures.checkins.in_order (rw c.checkins.ensures at c.in_group-ids.ensures.all))
    ∙ filter_found (λ (r : Checkin). names c.pair.result (checkin_keys r).group) (λ (r : Checkin). r.list == c.args.list && r.position == c.args.position) (λ r. found_checkin c.pair.result r c.args.list c.args.position c.pair.ensures) c.args.self.now.state.lists.checkins
