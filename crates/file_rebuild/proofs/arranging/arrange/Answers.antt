use Rattle.std.proofs.Common.{map, refl, sym, ap, subst, ◌∙◌}
use Rattle.std.specs.List.{zip}
use Rattle.sqlite_trees.proofs.ListLemmas.{map-map}
use Rattle.base_tables.specs.Tables.{AreInOrder}
use Rattle.file_rows.specs.declared.rows.ListRow.{ListRow}
use Rattle.file_rows.specs.declared.rows.PositionRow.{PositionRow}
use Rattle.file_rows.specs.declared.rows.QuotaRow.{QuotaRow}
use Rattle.file_rows.specs.declared.rows.SpentRow.{SpentRow}
use Rattle.file_rows.specs.declared.rows.VoucherHead.{VoucherHead}
use Rattle.file_rows.specs.declared.rows.VoucherRow.{VoucherRow}
use Rattle.file_meaning.proofs.Told.{order_of_parts}
use Rattle.file_rebuild.specs.Arranged.{count_in, item_link, variation_link, release_link, list_link, budget_link, discount_link, quota_of, list_of, voucher_with, position_with, AreCountsPaired}
use Rattle.file_rebuild.proofs.Joined.{used_rise, uses_rise, all_whole, both_whole, handed_on}
use Rattle.file_rebuild.proofs.Offices.{members_rise, items_rise, order_in_parts}
use Rattle.file_rebuild.proofs.arranging.arrange.Goals as goal

pub returns-clause-told : goal.returns-clause-told
returns-clause-told c =
    let t = c.args.tables in
    let vouchers = c.in_ok-sales.ensures.vouchers ∙ sym (map-map (voucher_with (map budget_link t.sales.budgets.items)) (λ (r : VoucherRow). r.voucher) t.sales.vouchers.items) in
    let redeemed = c.in_ok-counts.ensures.redeemed ∙ ap (λ l. map (λ (p : VoucherRow × SpentRow). count_in p.0 p.1.spent) (zip l t.others.spents.items)) c.as_slice.ensures.value in
    λ k. record {
      organizer = c.in_ok-copy.ensures k;
      event = c.in_ok-copy-2.ensures k;
      state = record {
        lists = record {
          catalogue = record { items = (c.in_ok-catalogue.ensures.items k).items; variations = (c.in_ok-catalogue.ensures.variations k).items; quotas = c.in_ok-catalogue.ensures.quotas k };
          vouchers = vouchers k;
          carts = (c.in_ok-sales.ensures.carts k).items;
          orders = (c.in_ok-sales.ensures.orders k).items;
          positions = c.in_ok-sales.ensures.positions k;
          waiting = (c.in_ok-sales.ensures.waiting k).items;
          checkin_lists = c.in_ok-doors.ensures.lists k;
          checkins = (c.in_ok-doors.ensures.checkins k).items;
        };
        next = c.args.shop.now.next;
        moment = c.args.shop.now.moment;
      };
      used = c.in_ok-counts.ensures.used k;
      redeemed = redeemed k;
    }

pub returns-clause-order : goal.returns-clause-order
returns-clause-order c =
    let t = c.args.tables in
    let all = c.all_rise.ensures.0 c.if-not-all_rise.false in
    let i = map item_link t.catalogue.quota_items.items in
    let v = map variation_link t.catalogue.quota_variations.items in
    let r = map release_link t.catalogue.releases.items in
    let l = map list_link t.doors.list_items.items in
    let b = map budget_link t.sales.budgets.items in
    let d = map discount_link t.sales.discounts.items in
    let sales = c.in_ok-sales.ensures.order in
    let counts = c.in_ok-counts.ensures.order in
    record {
      sales = sales;
      counts = counts;
      file = record {
        lists = record {
          ids = record {
            items = subst (λ rows. AreInOrder (λ r. r.id) rows.items) c.in_ok-catalogue.ensures.items (all.0);
            variations = subst (λ rows. AreInOrder (λ r. r.id) rows.items) c.in_ok-catalogue.ensures.variations (all.1);
            quotas = order_of_parts (λ (h : QuotaRow). h.id) (quota_of i v r) (λ q. q.id) (λ h. refl) 0 t.catalogue.quotas.items c.in_ok-catalogue.ensures.order;
            vouchers = order_of_parts (λ (h : VoucherHead). h.id) (voucher_with b) (λ w. w.id) (λ h. refl) 0 (map (λ (r : VoucherRow). r.voucher) t.sales.vouchers.items)
                (order_of_parts (λ (r : VoucherRow). r.voucher.id) (λ r. r.voucher) (λ h. h.id) (λ r. refl) 0 t.sales.vouchers.items sales.vouchers);
            carts = subst (λ rows. AreInOrder (λ r. r.id) rows.items) c.in_ok-sales.ensures.carts (all.2);
            orders = subst (λ rows. AreInOrder (λ r. r.id) rows.items) c.in_ok-sales.ensures.orders (all.3);
            positions = order_of_parts (λ (w : PositionRow). w.id) (position_with d) (λ p. p.id) (λ w. refl) 0 t.sales.positions.items sales.positions;
            waiting = subst (λ rows. AreInOrder (λ r. r.id) rows.items) c.in_ok-sales.ensures.waiting (all.4);
            checkin_lists = order_of_parts (λ (h : ListRow). h.id) (list_of l) (λ q. q.id) (λ h. refl) 0 t.doors.checkin_lists.items c.in_ok-doors.ensures.order;
            checkins = subst (λ rows. AreInOrder (λ r. r.id) rows.items) c.in_ok-doors.ensures.checkins (all.5);
          };
          members = members_rise i v r t.catalogue.quotas.items;
          limits = items_rise l t.doors.checkin_lists.items;
        };
        used = used_rise 0 t.others.counts.items t.others.exits.items counts.counts;
        redeemed = uses_rise 0 t.sales.vouchers.items t.others.spents.items sales.vouchers;
      };
    }

pub returns-clause-whole : goal.returns-clause-whole
returns-clause-whole c =
    let t = c.args.tables in
    let vouchers = c.in_ok-sales.ensures.vouchers ∙ sym (map-map (voucher_with (map budget_link t.sales.budgets.items)) (λ (r : VoucherRow). r.voucher) t.sales.vouchers.items) in
    let all = all_whole t c.in_ok-catalogue.catalogue.quotas.items c.in_ok-doors.doors.lists.items c.in_ok-sales.sales.vouchers.items c.in_ok-sales.sales.positions.items c.in_ok-catalogue.ensures.quotas c.in_ok-doors.ensures.lists vouchers c.in_ok-sales.ensures.positions in
    let two = both_whole _ _ _ _ _ c.both-members.ensures c.in_ok-catalogue.ensures.whole c.in_ok-doors.ensures.whole in
    let three = both_whole _ _ _ _ _ c.both-whole.ensures two c.in_ok-sales.ensures.whole in
    (λ w. all.0 (three.0 w), λ h. three.1 (all.1 h))

pub returns-clause-paired : goal.returns-clause-paired
returns-clause-paired c =
    let t = c.args.tables in
    let so = c.in_ok-counts.ensures.paired in
    let is = c.as_slice.ensures.value in
    (λ w. subst (λ l. AreCountsPaired l t.others) is (so.0 w), λ h. so.1 (subst (λ l. AreCountsPaired l t.others) (sym is) h))

pub returns-then-not-all_rise-clause-refused : goal.returns-then-not-all_rise-clause-refused
returns-then-not-all_rise-clause-refused c is order =
    let ids = order.file.lists.ids in
    let all = c.all_rise.ensures.1 (
      subst (λ rows. AreInOrder (λ r. r.id) rows.items) (sym c.in_ok-catalogue.ensures.items) ids.items,
      subst (λ rows. AreInOrder (λ r. r.id) rows.items) (sym c.in_ok-catalogue.ensures.variations) ids.variations,
      subst (λ rows. AreInOrder (λ r. r.id) rows.items) (sym c.in_ok-sales.ensures.carts) ids.carts,
      subst (λ rows. AreInOrder (λ r. r.id) rows.items) (sym c.in_ok-sales.ensures.orders) ids.orders,
      subst (λ rows. AreInOrder (λ r. r.id) rows.items) (sym c.in_ok-sales.ensures.waiting) ids.waiting,
      subst (λ rows. AreInOrder (λ r. r.id) rows.items) (sym c.in_ok-doors.ensures.checkins) ids.checkins,
    ) in
    absurd (let no = c.if-not-all_rise.true in cc)

pub returns-in_err-counts-clause-refused : goal.returns-in_err-counts-clause-refused
returns-in_err-counts-clause-refused c = handed_on c.from_residual.result _ c.in_err-counts.field-0.0 c.from_residual.ensures.1 (λ is order. c.in_err-counts.ensures.refused is order.counts)

pub returns-in_err-catalogue-clause-refused : goal.returns-in_err-catalogue-clause-refused
returns-in_err-catalogue-clause-refused c =
    let t = c.args.tables in
    let i = map item_link t.catalogue.quota_items.items in
    let v = map variation_link t.catalogue.quota_variations.items in
    let r = map release_link t.catalogue.releases.items in
    handed_on c.from_residual-in_err-catalogue.result _ c.in_err-catalogue.field-0.0 c.from_residual-in_err-catalogue.ensures.1
    (λ is order. c.in_err-catalogue.ensures.refused is (order_in_parts (λ (h : QuotaRow). h.id) (quota_of i v r) (λ q. q.id) (λ h. refl) 0 t.catalogue.quotas.items order.file.lists.ids.quotas))

pub returns-in_err-sales-clause-refused : goal.returns-in_err-sales-clause-refused
returns-in_err-sales-clause-refused c = handed_on c.from_residual-in_err-sales.result _ c.in_err-sales.field-0.0 c.from_residual-in_err-sales.ensures.1 (λ is order. c.in_err-sales.ensures.refused is order.sales)

pub returns-in_err-doors-clause-refused : goal.returns-in_err-doors-clause-refused
returns-in_err-doors-clause-refused c =
    let t = c.args.tables in
    let l = map list_link t.doors.list_items.items in
    handed_on c.from_residual-in_err-doors.result _ c.in_err-doors.field-0.0 c.from_residual-in_err-doors.ensures.1
    (λ is order. c.in_err-doors.ensures.refused is (order_in_parts (λ (h : ListRow). h.id) (list_of l) (λ q. q.id) (λ h. refl) 0 t.doors.checkin_lists.items order.file.lists.ids.checkin_lists))
