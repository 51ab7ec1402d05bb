-- When the rows of a file are those of a box office: lists by id whatever the rows' order, members as links, counts equal to recounts.
use Rattle.std.specs.Prelude.{◌≡◌, List, [], ◌∷◌, map, IsPermutation}
use Rattle.std.specs.List.{AllByRecursion}
use Rattle.base_tables.specs.Tables.{AreInOrder}
use Rattle.model_catalogue.specs.declared.rows.Quota.{Quota}
use Rattle.model_rows.specs.declared.rows.CheckinList.{CheckinList}
use Rattle.model_rows.specs.declared.changes.Change.{Change}
use Rattle.model_rows.specs.declared.changes.Change.TheVariants.{PutQuota, PutCheckinList}
use Rattle.model_rows.specs.CountRows.{quota_counts, voucher_counts}
use Rattle.model_rows.specs.Lists.{Lists, State}
use Rattle.model_invariant.specs.Ids.{EachTable}
use Rattle.file_meaning.specs.Links.{all_links}
use Rattle.file_rows.specs.Changes.{head_of_quota, head_of_voucher, head_of_position, head_of_list, head_of_count, head_of_exit, head_of_spent}
use Rattle.file_rows.specs.declared.rows.ShopRow.{ShopRow}
use Rattle.file_rows.specs.Tables.{Tables}
use Rattle.model_answers.specs.declared.kept.Kept.{Kept}
use Rattle.file_meaning.specs.Rows.{OfficeRows, rows_of, releases_of, budgets_of, discounts_of, head_of_redeemed, redeemed_in}

-- a statement for each table of rows
pub record EachOfRows (of_items of_variations of_quotas of_quota_items of_quota_variations of_quota_release of_vouchers of_voucher_budget of_carts of_orders of_positions of_position_discount of_waiting of_checkin_lists of_list_items of_checkins : Type 0) : Type 0 where
  pub items : of_items
  pub variations : of_variations
  pub quotas : of_quotas
  pub quota_items : of_quota_items
  pub quota_variations : of_quota_variations
  pub quota_release : of_quota_release
  pub vouchers : of_vouchers
  pub voucher_budget : of_voucher_budget
  pub carts : of_carts
  pub orders : of_orders
  pub positions : of_positions
  pub position_discount : of_position_discount
  pub waiting : of_waiting
  pub checkin_lists : of_checkin_lists
  pub list_items : of_list_items
  pub checkins : of_checkins

-- each table has the rows of its list, in some order; the members of a quota and the items of a check-in list are links, and so is that a quota
-- releases places, a voucher's budget, and what was taken off a position's price
abbrev pub AreRowsOf : Lists → OfficeRows → Type 0
AreRowsOf lists rows =
    EachOfRows
    (IsPermutation rows.items lists.catalogue.items)
    (IsPermutation rows.variations lists.catalogue.variations)
    (IsPermutation rows.quotas (map head_of_quota lists.catalogue.quotas))
    (IsPermutation rows.quota_items (all_links (λ q. q.id) (λ q. q.items) lists.catalogue.quotas))
    (IsPermutation rows.quota_variations (all_links (λ q. q.id) (λ q. q.variations) lists.catalogue.quotas))
    (IsPermutation rows.quota_release (all_links (λ q. q.id) releases_of lists.catalogue.quotas))
    (IsPermutation rows.vouchers (map head_of_voucher lists.vouchers))
    (IsPermutation rows.voucher_budget (all_links (λ v. v.id) budgets_of lists.vouchers))
    (IsPermutation rows.carts lists.carts)
    (IsPermutation rows.orders lists.orders)
    (IsPermutation rows.positions (map head_of_position lists.positions))
    (IsPermutation rows.position_discount (all_links (λ p. p.id) discounts_of lists.positions))
    (IsPermutation rows.waiting lists.waiting)
    (IsPermutation rows.checkin_lists (map head_of_list lists.checkin_lists))
    (IsPermutation rows.list_items (all_links (λ l. l.id) (λ l. l.limit_products) lists.checkin_lists))
    (IsPermutation rows.checkins lists.checkins)

-- two sets of rows have the same ones in each table, in whatever order
abbrev pub AreSameRows : OfficeRows → OfficeRows → Type 0
AreSameRows a b =
    EachOfRows
    (IsPermutation a.items b.items)
    (IsPermutation a.variations b.variations)
    (IsPermutation a.quotas b.quotas)
    (IsPermutation a.quota_items b.quota_items)
    (IsPermutation a.quota_variations b.quota_variations)
    (IsPermutation a.quota_release b.quota_release)
    (IsPermutation a.vouchers b.vouchers)
    (IsPermutation a.voucher_budget b.voucher_budget)
    (IsPermutation a.carts b.carts)
    (IsPermutation a.orders b.orders)
    (IsPermutation a.positions b.positions)
    (IsPermutation a.position_discount b.position_discount)
    (IsPermutation a.waiting b.waiting)
    (IsPermutation a.checkin_lists b.checkin_lists)
    (IsPermutation a.list_items b.list_items)
    (IsPermutation a.checkins b.checkins)

-- a quota's items rise, and so do its variations
pub record MembersRise (quota : Quota) : Type 0 where
  pub items : AreInOrder (λ n. n) quota.items
  pub variations : AreInOrder (λ n. n) quota.variations

-- a check-in list's items rise
abbrev pub ItemsRise : CheckinList → Type 0
ItemsRise row = AreInOrder (λ n. n) row.limit_products

-- in each list ids rise, and so do the members of each quota and the items of each check-in list
pub record AreOrdered (lists : Lists) : Type 0 where
  pub ids :
      EachTable
      (AreInOrder (λ r. r.id) lists.catalogue.items)
      (AreInOrder (λ r. r.id) lists.catalogue.variations)
      (AreInOrder (λ r. r.id) lists.catalogue.quotas)
      (AreInOrder (λ r. r.id) lists.vouchers)
      (AreInOrder (λ r. r.id) lists.carts)
      (AreInOrder (λ r. r.id) lists.orders)
      (AreInOrder (λ r. r.id) lists.positions)
      (AreInOrder (λ r. r.id) lists.waiting)
      (AreInOrder (λ r. r.id) lists.checkin_lists)
      (AreInOrder (λ r. r.id) lists.checkins)
  pub members : AllByRecursion MembersRise lists.catalogue.quotas
  pub limits : AllByRecursion ItemsRise lists.checkin_lists

-- of a quota or a check-in list that is put, so do they
abbrev pub IsRising : Change → Type 0
IsRising (PutQuota row) = MembersRise row
IsRising (PutCheckinList row) = ItemsRise row
IsRising _ = Unit {0}

-- the tables hold this box office, these counts of it and these answers, and the shop's row is this one with the office's moment
-- and next ids; tokens are as they were left
pub record Stand (shop : ShopRow) (t : Tables) (state : State) (answers : List Kept) : Type 0 where
  pub shop_is : t.shop ≡ shop ∷ []
  pub moment : shop.moment ≡ state.moment
  pub next : shop.next ≡ state.next
  pub rows : AreRowsOf state.lists (rows_of t)
  pub ordered : AreOrdered state.lists
  -- the counters are what is counted afresh at the moment
  pub used : IsPermutation t.counts (map head_of_count (quota_counts state))
  pub exits : IsPermutation t.exits (map head_of_exit (quota_counts state))
  pub redeemed : IsPermutation (redeemed_in t) (map head_of_redeemed (voucher_counts state))
  pub spents : IsPermutation t.spents (map head_of_spent (voucher_counts state))
  pub kept : IsPermutation (map (λ r. r.kept) t.kept) answers
