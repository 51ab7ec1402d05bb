use Rattle.std.proofs.Common.{rules, ◌≡◌, ℕ, List, map, ap, ◌∙◌}
use Rattle.model_catalogue.specs.declared.rows.Quota.{Quota}
use Rattle.model_catalogue.specs.CatalogueLists.{CatalogueLists}
use Rattle.model_rows.specs.declared.rows.OrderPos.{OrderPos}
use Rattle.model_rows.specs.declared.rows.Voucher.{Voucher}
use Rattle.model_rows.specs.Usage.{usage_of}
use Rattle.book_counts_over_time.specs.UsageUpdates.{map_beside}
use Rattle.book_counts_applied.specs.Fresh.{after_each, position_comes, voucher_comes}
use Rattle.book_counts_applied.specs.Settled.{nothing}
use Rattle.book_counts_applied.proofs.FreshLemmas.{usages_come}
use Rattle.book_counts_applied.proofs.fresh.count_usages.Goals as goal

pub returns : goal.returns
returns c =
    let lists = c.args.store.now.state.lists in
    let at = c.moment-at.result in
    let none = c.clear_usages.new.usages.items in
    let sold = c.add_positions.new.usages.items in
    let quotas : c.quotas.result.now ≡ lists.catalogue.quotas = c.quotas.ensures ∙ ap (λ (l : CatalogueLists). l.quotas) c.catalogue.ensures in
    let rows : c.as_slice.result.now ≡ lists.positions = search rules in
    usages_come lists at none sold c.add_vouchers.new.usages.items c.add_carts.new.usages.items c.add_entries.new.usages.items c.recall_invariant.ensures c.requires.small
    (c.clear_usages.ensures.items ∙ ap (λ (l : List Quota). map (λ q. nothing) l) quotas)
    (c.add_positions.ensures.items ∙ ap (λ (l : List OrderPos). map_beside (after_each (position_comes lists) l) lists.catalogue.quotas none) rows)
    (c.add_vouchers.ensures.items ∙ ap (λ (l : List Voucher). map_beside (after_each (voucher_comes lists at) l) lists.catalogue.quotas sold) c.vouchers.ensures)
    c.add_carts.ensures.items c.add_entries.ensures.items
    ∙ ap (λ (n : ℕ). map (usage_of lists n) lists.catalogue.quotas) c.moment-at.ensures
