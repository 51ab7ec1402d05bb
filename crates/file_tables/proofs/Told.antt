-- What trees hold is one office with one set of answers.
use Rattle.std.proofs.Common.{◌≡◌, List, [], ◌∷◌, map, sym, ap, subst, ◌∙◌}
use Rattle.std.specs.List.Sorted.{IsPermutation}
use Rattle.std.proofs.lemmas.List.Sorted.{IsPermutation-map, IsPermutation-sym, IsPermutation-trans}
use Rattle.sqlite_trees.specs.Tree.{Trees}
use Rattle.sqlite.proofs.Callers.{one_permutation}
use Rattle.model_rows.specs.Lists.{State}
use Rattle.model_answers.specs.declared.kept.Kept.{Kept}
use Rattle.model_answers.specs.ShopView.{IsSame}
use Rattle.file_rows.specs.declared.rows.ShopRow.{ShopRow}
use Rattle.file_rows.specs.Rows.{shop_row, item_row, variation_row, quota_row, quota_item_row, quota_variation_row, voucher_row, cart_row, order_row, position_row, waiting_row, list_row, list_item_row, checkin_row, kept_row, release_row, budget_row, discount_row}
use Rattle.file_rows.specs.Tables.{Tables, Holds}
use Rattle.file_reads.proofs.Back.{alike, shop_in, shop_back, item_in, item_back, variation_in, variation_back, quota_in, quota_back, quota_item_in, quota_item_back, quota_variation_in, quota_variation_back, voucher_in, voucher_back, cart_in, cart_back, order_in, order_back}
use Rattle.file_reads.proofs.Back.{position_in, position_back, waiting_in, waiting_back, list_in, list_back, list_item_in, list_item_back, checkin_in, checkin_back, kept_in, kept_back, release_in, release_back, budget_in, budget_back, discount_in, discount_back}
use Rattle.file_meaning.specs.Rows.{rows_of}
use Rattle.file_meaning.specs.Stands.{AreSameRows, Stand}
use Rattle.file_meaning.proofs.Told.{tell_one}

module _ (db : Trees) (t u : Tables) (h : Holds db t) (k : Holds db u) where
  same_shops : IsPermutation t.shop u.shop
  same_shops = alike shop_row shop_in shop_back t.shop u.shop _ h.0 k.0

  same_office : AreSameRows (rows_of t) (rows_of u)
  same_office = record {
    items = alike item_row item_in item_back t.items u.items _ h.1.0 k.1.0;
    variations = alike variation_row variation_in variation_back t.variations u.variations _ h.1.1.0 k.1.1.0;
    quotas = alike quota_row quota_in quota_back t.quotas u.quotas _ h.1.1.1.0 k.1.1.1.0;
    quota_items = IsPermutation-map (λ r. record { owner = r.quota; member = r.item }) t.quota_items u.quota_items (alike quota_item_row quota_item_in quota_item_back t.quota_items u.quota_items _ h.1.1.1.1.0 k.1.1.1.1.0);
    quota_variations = IsPermutation-map (λ r. record { owner = r.quota; member = r.variation }) t.quota_variations u.quota_variations (alike quota_variation_row quota_variation_in quota_variation_back t.quota_variations u.quota_variations _ h.1.1.1.1.1.0 k.1.1.1.1.1.0);
    quota_release = IsPermutation-map (λ r. record { owner = r.quota; member = r.quota }) t.releases u.releases (alike release_row release_in release_back t.releases u.releases _ h.1.1.1.1.1.1.1.1.1.1.1.1.1.1.1.1.1.0 k.1.1.1.1.1.1.1.1.1.1.1.1.1.1.1.1.1.0);
    vouchers = IsPermutation-map (λ r. r.voucher) t.vouchers u.vouchers (alike voucher_row voucher_in voucher_back t.vouchers u.vouchers _ h.1.1.1.1.1.1.0 k.1.1.1.1.1.1.0);
    voucher_budget = IsPermutation-map (λ r. record { owner = r.voucher_id; member = r.budget }) t.budgets u.budgets (alike budget_row budget_in budget_back t.budgets u.budgets _ h.1.1.1.1.1.1.1.1.1.1.1.1.1.1.1.1.1.1.1.0 k.1.1.1.1.1.1.1.1.1.1.1.1.1.1.1.1.1.1.1.0);
    carts = alike cart_row cart_in cart_back t.carts u.carts _ h.1.1.1.1.1.1.1.0 k.1.1.1.1.1.1.1.0;
    orders = alike order_row order_in order_back t.orders u.orders _ h.1.1.1.1.1.1.1.1.0 k.1.1.1.1.1.1.1.1.0;
    positions = alike position_row position_in position_back t.positions u.positions _ h.1.1.1.1.1.1.1.1.1.0 k.1.1.1.1.1.1.1.1.1.0;
    position_discount = IsPermutation-map (λ r. record { owner = r.position_id; member = r.discount }) t.discounts u.discounts (alike discount_row discount_in discount_back t.discounts u.discounts _ h.1.1.1.1.1.1.1.1.1.1.1.1.1.1.1.1.1.1.1.1.1.0 k.1.1.1.1.1.1.1.1.1.1.1.1.1.1.1.1.1.1.1.1.1.0);
    waiting = alike waiting_row waiting_in waiting_back t.waiting u.waiting _ h.1.1.1.1.1.1.1.1.1.1.0 k.1.1.1.1.1.1.1.1.1.1.0;
    checkin_lists = alike list_row list_in list_back t.checkin_lists u.checkin_lists _ h.1.1.1.1.1.1.1.1.1.1.1.0 k.1.1.1.1.1.1.1.1.1.1.1.0;
    list_items = IsPermutation-map (λ r. record { owner = r.list; member = r.item }) t.list_items u.list_items (alike list_item_row list_item_in list_item_back t.list_items u.list_items _ h.1.1.1.1.1.1.1.1.1.1.1.1.0 k.1.1.1.1.1.1.1.1.1.1.1.1.0);
    checkins = alike checkin_row checkin_in checkin_back t.checkins u.checkins _ h.1.1.1.1.1.1.1.1.1.1.1.1.1.0 k.1.1.1.1.1.1.1.1.1.1.1.1.1.0;
  }

  same_answers : IsPermutation (map (λ r. r.kept) t.kept) (map (λ r. r.kept) u.kept)
  same_answers = IsPermutation-map (λ r. r.kept) t.kept u.kept (alike kept_row kept_in kept_back t.kept u.kept _ h.1.1.1.1.1.1.1.1.1.1.1.1.1.1.1.1.0 k.1.1.1.1.1.1.1.1.1.1.1.1.1.1.1.1.0)

  -- the one row of the shop
  pub shop_again : (head : ShopRow) → t.shop ≡ head ∷ [] → u.shop ≡ head ∷ []
  shop_again head is = one_permutation head u.shop (subst (λ l. IsPermutation l u.shop) is same_shops)

  module _ (a b : ShopRow) (x y : State) (ks js : List Kept) (s : Stand a t x ks) (r : Stand b u y js) where
    same_head : a ≡ b
    same_head =
        let one : IsPermutation (a ∷ []) (b ∷ []) = subst (λ l. IsPermutation l (b ∷ [])) s.shop_is (subst (IsPermutation t.shop) r.shop_is same_shops) in
        let is : b ∷ [] ≡ a ∷ [] = one_permutation a (b ∷ []) one in
        cc

    pub one_shop : IsSame (record { state = x; kept = ks }) (record { state = y; kept = js })
    one_shop =
        let lists = tell_one x.lists y.lists (rows_of t) (rows_of u) s.ordered r.ordered s.rows r.rows same_office in
        let moment : x.moment ≡ y.moment = sym s.moment ∙ ap (λ (h : ShopRow). h.moment) same_head ∙ r.moment in
        let next : x.next ≡ y.next = sym s.next ∙ ap (λ (h : ShopRow). h.next) same_head ∙ r.next in
        record {
          state = rw (lists, next, moment);
          kept = IsPermutation-trans ks _ js (IsPermutation-sym _ ks s.kept) (IsPermutation-trans _ _ js same_answers r.kept);
        }
