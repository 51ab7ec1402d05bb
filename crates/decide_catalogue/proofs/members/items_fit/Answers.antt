use Rattle.std.proofs.Common.{◌≡◌, ap, ◌∙◌}
use Rattle.std.specs.List.{list_all}
use Rattle.base_tables.specs.Rising.{rising}
use Rattle.model_catalogue.specs.CatalogueLists.{item_at}
use Rattle.model_catalogue.specs.QuotaAdded.{items_of, items_fit, is_offered}
use Rattle.decide_catalogue.proofs.Offered.{offered_is}
use Rattle.decide_catalogue.proofs.members.items_fit.Goals as goal

pub returns : goal.returns
unfolding items_fit
returns c =
    let quota = c.args.quota.now in
    let lists = c.args.catalogue.now.lists in
    let all : c.are_offered.result ≡ list_all (λ id. is_offered c.sorted-offered.result (item_at id lists)) quota.items = rw c.as_slice-2.ensures at c.are_offered.ensures in
    let items : c.in_ok-items.items.items ≡ items_of quota.variations lists = rw c.as_slice.ensures at c.in_ok-items.ensures in
    all ∙ offered_is c.sorted-offered.result (items_of quota.variations lists) quota.items lists (c.sorted-offered.ensures ∙ ap rising items)
