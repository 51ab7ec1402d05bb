use Rattle.std.proofs.Common.{◌∙◌, List, sym, ap}
use Rattle.model_rows.specs.declared.rows.Waiting.{Waiting}
use Rattle.book_counts_over_time.specs.UsageUpdates.{map_beside}
use Rattle.book_counts_applied.specs.Fresh.{after_each, entry_comes}
use Rattle.book_counts_applied.proofs.FreshLemmas.{each_more, each_none}
use Rattle.book_counts_applied.proofs.fresh.add_entries.Goals as goal

pub loop-row-preserved : goal.loop-row-preserved
loop-row-preserved c =
    let lists = c.args.store.now.state.lists in
    record {
      items =
          each_more entry_comes lists.catalogue.quotas c.in-Some.row.now c.next.new.self c.loop-row.usages.items c.add_entry.new.usages.items c.add_entry.ensures.items
          ∙ ap (λ (l : List Waiting). map_beside (after_each entry_comes l) lists.catalogue.quotas c.loop-row.usages.items) (sym c.in-Some.ensures.steps) ∙ c.loop-row.invariant.items;
      same = c.add_entry.ensures.same ∙ c.loop-row.invariant.same;
    }

pub returns : goal.returns
returns c =
    let lists = c.args.store.now.state.lists in
    record {
      items =
          sym (each_none entry_comes lists.catalogue.quotas c.loop-row.usages.items (c.loop-row.invariant.same ∙ c.requires))
          ∙ ap (λ (l : List Waiting). map_beside (after_each entry_comes l) lists.catalogue.quotas c.loop-row.usages.items) (sym c.in-None.ensures.steps.0) ∙ c.loop-row.invariant.items;
      same = c.loop-row.invariant.same;
    }
