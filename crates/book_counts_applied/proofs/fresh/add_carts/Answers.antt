use Rattle.std.proofs.Common.{◌∙◌, List, sym, ap}
use Rattle.model_rows.specs.declared.rows.CartPos.{CartPos}
use Rattle.book_counts_over_time.specs.UsageUpdates.{map_beside}
use Rattle.book_counts_applied.specs.Fresh.{after_each, cart_comes}
use Rattle.book_counts_applied.proofs.FreshLemmas.{each_more, each_none}
use Rattle.book_counts_applied.proofs.fresh.add_carts.Goals as goal

pub loop-row-preserved : goal.loop-row-preserved
loop-row-preserved c =
    let lists = c.args.store.now.state.lists in
    record {
      items =
          each_more (cart_comes lists c.args.at) lists.catalogue.quotas c.in-Some.row.now c.next.new.self c.loop-row.usages.items c.add_cart.new.usages.items c.add_cart.ensures.items
          ∙ ap (λ (l : List CartPos). map_beside (after_each (cart_comes lists c.args.at) l) lists.catalogue.quotas c.loop-row.usages.items) (sym c.in-Some.ensures.steps) ∙ c.loop-row.invariant.items;
      same = c.add_cart.ensures.same ∙ c.loop-row.invariant.same;
    }

pub returns : goal.returns
returns c =
    let lists = c.args.store.now.state.lists in
    record {
      items =
          sym (each_none (cart_comes lists c.args.at) lists.catalogue.quotas c.loop-row.usages.items (c.loop-row.invariant.same ∙ c.requires))
          ∙ ap (λ (l : List CartPos). map_beside (after_each (cart_comes lists c.args.at) l) lists.catalogue.quotas c.loop-row.usages.items) (sym c.in-None.ensures.steps.0) ∙ c.loop-row.invariant.items;
      same = c.loop-row.invariant.same;
    }
