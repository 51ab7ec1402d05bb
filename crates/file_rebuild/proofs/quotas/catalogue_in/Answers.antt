use Rattle.std.proofs.Common.{◌∙◌, IsTrue, map, ap, refl, sym, subst}
use Rattle.base_tables.specs.Tables.{AreInOrder}
use Rattle.file_rows.specs.declared.rows.QuotaRow.{QuotaRow}
use Rattle.file_rebuild.specs.Arranged.{item_link, variation_link, release_link}
use Rattle.file_rebuild.proofs.Joined.{each_is, quotas_are, links_whole, items_all, variations_all, releases_all, both_whole}
use Rattle.file_meaning.proofs.Told.{order_of_parts}
use Rattle.file_rebuild.proofs.Offices.{order_in_parts}
use Rattle.file_rebuild.proofs.quotas.catalogue_in.Goals as goal

pub returns-clause-quotas : goal.returns-clause-quotas
returns-clause-quotas c =
    let rows = c.args.rows in
    let heads = rows.quotas.items in
    let of_ids = c.in_ok-ids.ensures ∙ ap (map (λ (h : QuotaRow). h.id)) c.as_slice.ensures.value in
    let items = each_is item_link heads rows.quota_items.items c.as_slice-4.result.now c.as_slice-3.result.now c.in_ok-in_items.in_items.each.items (c.as_slice-3.ensures.value ∙ of_ids) c.as_slice-4.ensures.value c.in_ok-in_items.ensures.each in
    let variations = each_is variation_link heads rows.quota_variations.items c.as_slice-6.result.now c.as_slice-5.result.now c.in_ok-in_variations.in_variations.each.items (c.as_slice-5.ensures.value ∙ of_ids) c.as_slice-6.ensures.value c.in_ok-in_variations.ensures.each in
    let releases = each_is release_link heads rows.releases.items c.as_slice-8.result.now c.as_slice-7.result.now c.in_ok-in_releases.in_releases.each.items (c.as_slice-7.ensures.value ∙ of_ids) c.as_slice-8.ensures.value c.in_ok-in_releases.ensures.each in
    quotas_are (map item_link rows.quota_items.items) (map variation_link rows.quota_variations.items) (map release_link rows.releases.items) heads c.in_ok-in_items.in_items.each.items c.in_ok-in_variations.in_variations.each.items c.in_ok-in_releases.in_releases.each.items c.in_ok-quotas.quotas.items
    items variations releases c.in_ok-quotas.ensures

pub returns-clause-order : goal.returns-clause-order
returns-clause-order c =
    let heads = c.args.rows.quotas.items in
    let ids = c.as_slice-2.ensures.value ∙ c.in_ok-ids.ensures ∙ ap (map (λ (h : QuotaRow). h.id)) c.as_slice.ensures.value in
    order_in_parts (λ (h : QuotaRow). h.id) (λ (h : QuotaRow). h.id) (λ n. n) (λ h. refl) 0 heads (subst (AreInOrder (λ n. n)) ids (c.if-not-rises.ensures.0 refl))

pub returns-clause-whole : goal.returns-clause-whole
returns-clause-whole c =
    let rows = c.args.rows in
    let heads = rows.quotas.items in
    let i = map item_link rows.quota_items.items in
    let v = map variation_link rows.quota_variations.items in
    let r = map release_link rows.releases.items in
    let quotas = c.in_ok-quotas.quotas.items in
    let of_ids = c.in_ok-ids.ensures ∙ ap (map (λ (h : QuotaRow). h.id)) c.as_slice.ensures.value in
    let items = each_is item_link heads rows.quota_items.items c.as_slice-4.result.now c.as_slice-3.result.now c.in_ok-in_items.in_items.each.items (c.as_slice-3.ensures.value ∙ of_ids) c.as_slice-4.ensures.value c.in_ok-in_items.ensures.each in
    let variations = each_is variation_link heads rows.quota_variations.items c.as_slice-6.result.now c.as_slice-5.result.now c.in_ok-in_variations.in_variations.each.items (c.as_slice-5.ensures.value ∙ of_ids) c.as_slice-6.ensures.value c.in_ok-in_variations.ensures.each in
    let releases = each_is release_link heads rows.releases.items c.as_slice-8.result.now c.as_slice-7.result.now c.in_ok-in_releases.in_releases.each.items (c.as_slice-7.ensures.value ∙ of_ids) c.as_slice-8.ensures.value c.in_ok-in_releases.ensures.each in
    let are = quotas_are i v r heads c.in_ok-in_items.in_items.each.items c.in_ok-in_variations.in_variations.each.items c.in_ok-in_releases.in_releases.each.items quotas items variations releases c.in_ok-quotas.ensures in
    let one = links_whole item_link heads rows.quota_items.items c.as_slice-4.result.now _ c.as_slice-3.result.now (IsTrue c.in_ok-in_items.in_items.whole) (c.as_slice-3.ensures.value ∙ of_ids) c.as_slice-4.ensures.value (items_all i v r heads quotas are) c.in_ok-in_items.ensures.whole in
    let two = links_whole variation_link heads rows.quota_variations.items c.as_slice-6.result.now _ c.as_slice-5.result.now (IsTrue c.in_ok-in_variations.in_variations.whole) (c.as_slice-5.ensures.value ∙ of_ids) c.as_slice-6.ensures.value (variations_all i v r heads quotas are) c.in_ok-in_variations.ensures.whole in
    let three = links_whole release_link heads rows.releases.items c.as_slice-8.result.now _ c.as_slice-7.result.now (IsTrue c.in_ok-in_releases.in_releases.whole) (c.as_slice-7.ensures.value ∙ of_ids) c.as_slice-8.ensures.value (releases_all i v rows.releases.items heads quotas are) c.in_ok-in_releases.ensures.whole in
    both_whole _ _ _ _ _ c.both-whole.ensures (both_whole _ _ _ _ _ c.both-members.ensures one two) three

pub returns-then-not-rises-clause-refused : goal.returns-then-not-rises-clause-refused
returns-then-not-rises-clause-refused c is order =
    let heads = c.args.rows.quotas.items in
    let ids = c.as_slice-2.ensures.value ∙ c.in_ok-ids.ensures ∙ ap (map (λ (h : QuotaRow). h.id)) c.as_slice.ensures.value in
    let rise = c.rises.ensures.1 (subst (AreInOrder (λ n. n)) (sym ids) (order_of_parts (λ (h : QuotaRow). h.id) (λ (h : QuotaRow). h.id) (λ n. n) (λ h. refl) 0 heads order)) in
    absurd (let no = c.if-not-rises.true in cc)
