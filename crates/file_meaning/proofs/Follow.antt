-- What a list of changes makes of tables that hold a box office.
use Rattle.std.proofs.Common.{◌≡◌, ℕ, Bool, true, false, List, [], ◌∷◌, refl, sym, ap, subst, ◌∙◌}
use Rattle.std.specs.List.{AllByRecursion}
use Rattle.std.specs.List.Sorted.{IsPermutation}
use Rattle.std.proofs.lemmas.List.Sorted.{IsPermutation-trans, IsPermutation-refl}
use Rattle.base_tables.specs.Tables.{AreInOrder, with_row, without_row}
use Rattle.model_rows.specs.declared.count_rows.VoucherCount.{VoucherCount}
use Rattle.model_rows.specs.declared.rows.Voucher.{Voucher}
use Rattle.model_rows.specs.declared.changes.Change.{Change}
use Rattle.model_rows.specs.declared.changes.Change.TheVariants.{PutItem, PutVariation, PutQuota, PutVoucher, PutCart, PutOrder, PutPosition, PutWaiting, DropVoucher, DropCart, DropWaiting, PutCheckinList, PutCheckin}
use Rattle.model_rows.specs.Change.{after_change, after_all}
use Rattle.model_rows.specs.Lists.{Lists}
use Rattle.file_rows.specs.declared.rows.SpentRow.{SpentRow}
use Rattle.file_rows.specs.Changes.{head_of_spent}
use Rattle.file_rows.specs.Tables.{Tables}
use Rattle.file_meaning.specs.Counts.{AllStand, CountsKept}
use Rattle.file_meaning.specs.Free.{IsFree}
use Rattle.file_meaning.specs.Lawful.{puts_come_first}
use Rattle.file_meaning.specs.Rows.{OfficeRows, Redeemed, head_of_redeemed, rows_of, redeemed_in}
use Rattle.file_meaning.specs.RowsAfter.{rows_after, redeemed_by, redeemed_of, put_row}
use Rattle.file_meaning.specs.Stands.{AreRowsOf, AreSameRows, AreOrdered, IsRising}
use Rattle.file_meaning.specs.Turned.{AreTurned}
use Rattle.file_meaning.proofs.Changed.{kept_rows, kept_order, row_put, row_dropped}
use Rattle.file_meaning.proofs.Counting.{all_drop, all_put, counting_drop, counting_put, counting_stays, of_redeemed, of_spent, redeemed_as, same_found_in}

-- the same rows are those of the office too
pub rows_along : (lists : Lists) (xs ys : OfficeRows) → AreSameRows xs ys → AreRowsOf lists ys → AreRowsOf lists xs
rows_along lists xs ys same h = record {
  items = IsPermutation-trans _ _ _ same.items h.items;
  variations = IsPermutation-trans _ _ _ same.variations h.variations;
  quotas = IsPermutation-trans _ _ _ same.quotas h.quotas;
  quota_items = IsPermutation-trans _ _ _ same.quota_items h.quota_items;
  quota_variations = IsPermutation-trans _ _ _ same.quota_variations h.quota_variations;
  quota_release = IsPermutation-trans _ _ _ same.quota_release h.quota_release;
  vouchers = IsPermutation-trans _ _ _ same.vouchers h.vouchers;
  voucher_budget = IsPermutation-trans _ _ _ same.voucher_budget h.voucher_budget;
  carts = IsPermutation-trans _ _ _ same.carts h.carts;
  orders = IsPermutation-trans _ _ _ same.orders h.orders;
  positions = IsPermutation-trans _ _ _ same.positions h.positions;
  position_discount = IsPermutation-trans _ _ _ same.position_discount h.position_discount;
  waiting = IsPermutation-trans _ _ _ same.waiting h.waiting;
  checkin_lists = IsPermutation-trans _ _ _ same.checkin_lists h.checkin_lists;
  list_items = IsPermutation-trans _ _ _ same.list_items h.list_items;
  checkins = IsPermutation-trans _ _ _ same.checkins h.checkins;
}

pub same_rows : (rows : OfficeRows) → AreSameRows rows rows
same_rows rows = record {
  items = IsPermutation-refl _;
  variations = IsPermutation-refl _;
  quotas = IsPermutation-refl _;
  quota_items = IsPermutation-refl _;
  quota_variations = IsPermutation-refl _;
  quota_release = IsPermutation-refl _;
  vouchers = IsPermutation-refl _;
  voucher_budget = IsPermutation-refl _;
  carts = IsPermutation-refl _;
  orders = IsPermutation-refl _;
  positions = IsPermutation-refl _;
  position_discount = IsPermutation-refl _;
  waiting = IsPermutation-refl _;
  checkin_lists = IsPermutation-refl _;
  list_items = IsPermutation-refl _;
  checkins = IsPermutation-refl _;
}

pub follows : (changes : List Change) (from to : ℕ) (t u : Tables) → AreTurned changes from to t u → AllByRecursion IsRising changes → (lists : Lists) → AreOrdered lists → AreRowsOf lists (rows_of t)
    → AreOrdered (after_all changes lists) × AreRowsOf (after_all changes lists) (rows_of u)
follows [] from to t u h r lists o rows = (o, subst (λ (t : Tables). AreRowsOf lists (rows_of t)) h.1 rows)
follows (change ∷ changes) from to t u h r lists o rows =
    follows changes h.0 to h.1 u h.3 r.1 (after_change change lists) (kept_order change lists r.0 o)
    (rows_along (after_change change lists) (rows_of h.1) (rows_after change (rows_of t)) h.2.rows (kept_rows change lists (rows_of t) o rows))

-- ---- what stays as it was

pub record Stays (t u : Tables) : Type 0 where
  pub shop : u.shop ≡ t.shop
  pub counts : u.counts ≡ t.counts
  pub exits : u.exits ≡ t.exits
  pub tokens : u.tokens ≡ t.tokens
  pub kept : u.kept ≡ t.kept

pub stays : (changes : List Change) (from to : ℕ) (t u : Tables) → AreTurned changes from to t u → Stays t u
stays [] from to t u h = record {
  shop = ap (λ (t : Tables). t.shop) (sym h.1);
  counts = ap (λ (t : Tables). t.counts) (sym h.1);
  exits = ap (λ (t : Tables). t.exits) (sym h.1);
  tokens = ap (λ (t : Tables). t.tokens) (sym h.1);
  kept = ap (λ (t : Tables). t.kept) (sym h.1);
}
stays (change ∷ changes) from to t u h =
    let first = h.2 in
    let rest = stays changes h.0 to h.1 u h.3 in
    record {
      shop = rest.shop ∙ first.shop;
      counts = rest.counts ∙ first.counts;
      exits = rest.exits ∙ first.exits;
      tokens = rest.tokens ∙ first.tokens;
      kept = rest.kept ∙ first.kept;
    }

pub still_free : (changes : List Change) (from to : ℕ) (t u : Tables) → AreTurned changes from to t u → IsFree from t → IsFree to u
still_free [] from to t u h free = subst (λ n. IsFree n u) h.0 (subst (IsFree from) h.1 free)
still_free (change ∷ changes) from to t u h free = still_free changes h.0 to h.1 u h.3 h.2.free

-- ---- the counts of vouchers

-- after some changes: how often vouchers are redeemed, and what is spent of them, as the tables have it
pub record Counted (listed before : List VoucherCount) (vouchers : List Voucher) (dropped : Bool) (t : Tables) : Type 0 where
  pub redeemed : List Redeemed
  pub spents : List SpentRow
  pub all_stand : AllStand of_redeemed vouchers redeemed
  pub redeemed_kept : CountsKept of_redeemed head_of_redeemed dropped listed before vouchers redeemed
  pub spents_kept : CountsKept of_spent head_of_spent dropped listed before vouchers spents
  pub redeemed_same : IsPermutation (redeemed_in t) redeemed
  pub spents_same : IsPermutation t.spents spents

put_count : (row : Voucher) (xs counts : List Redeemed) → AreInOrder of_redeemed counts → IsPermutation xs counts → IsPermutation (put_row of_redeemed (redeemed_as row xs) xs) (with_row of_redeemed (redeemed_as row counts) counts)
put_count row xs counts h same =
    let is : redeemed_of row.id xs ≡ redeemed_of row.id counts = ap redeemed_by (same_found_in of_redeemed row.id xs counts h same) in
    subst (λ n. IsPermutation (put_row of_redeemed (record { voucher = row.id; redeemed = n }) xs) (with_row of_redeemed (redeemed_as row counts) counts)) (sym is) (row_put of_redeemed (redeemed_as row counts) xs counts h same)

module _ (listed before : List VoucherCount) (vouchers : List Voucher) (t m : Tables) where
  -- a change of no voucher
  counted_on : (dropped : Bool) → Counted listed before vouchers dropped t → IsPermutation (redeemed_in m) (redeemed_in t) → m.spents ≡ t.spents → Counted listed before vouchers dropped m
  counted_on dropped c redeemed spents = record {
    redeemed = c.redeemed;
    spents = c.spents;
    all_stand = c.all_stand;
    redeemed_kept = c.redeemed_kept;
    spents_kept = c.spents_kept;
    redeemed_same = IsPermutation-trans _ _ _ redeemed c.redeemed_same;
    spents_same = subst (λ l. IsPermutation l c.spents) (sym spents) c.spents_same;
  }

  -- a voucher is put
  counted_put : (row : Voucher) → Counted listed before vouchers false t → IsPermutation (redeemed_in m) (put_row of_redeemed (redeemed_as row (redeemed_in t)) (redeemed_in t)) → m.spents ≡ t.spents
      → Counted listed before (with_row (λ v. v.id) row vouchers) false m
  counted_put row c redeemed spents = record {
    redeemed = with_row of_redeemed (redeemed_as row c.redeemed) c.redeemed;
    spents = c.spents;
    all_stand = all_put listed before vouchers c.redeemed row c.all_stand;
    redeemed_kept = counting_put listed before vouchers c.redeemed row c.redeemed_kept;
    spents_kept = counting_stays of_spent head_of_spent (λ w. refl) listed before vouchers c.spents row c.spents_kept;
    redeemed_same = IsPermutation-trans _ _ _ redeemed (put_count row (redeemed_in t) c.redeemed c.redeemed_kept.in_order c.redeemed_same);
    spents_same = subst (λ l. IsPermutation l c.spents) (sym spents) c.spents_same;
  }

  -- a voucher goes
  counted_drop : (dropped : Bool) (id : ℕ) → Counted listed before vouchers dropped t → IsPermutation (redeemed_in m) (without_row of_redeemed id (redeemed_in t)) → m.spents ≡ without_row of_spent id t.spents
      → Counted listed before (without_row (λ v. v.id) id vouchers) true m
  counted_drop dropped id c redeemed spents = record {
    redeemed = without_row of_redeemed id c.redeemed;
    spents = without_row of_spent id c.spents;
    all_stand = all_drop of_redeemed head_of_redeemed (λ w. refl) listed before vouchers c.redeemed id c.all_stand;
    redeemed_kept = counting_drop of_redeemed head_of_redeemed (λ w. refl) listed before vouchers c.redeemed dropped id c.redeemed_kept;
    spents_kept = counting_drop of_spent head_of_spent (λ w. refl) listed before vouchers c.spents dropped id c.spents_kept;
    redeemed_same = IsPermutation-trans _ _ _ redeemed (row_dropped of_redeemed id (redeemed_in t) c.redeemed c.redeemed_same);
    spents_same = subst (λ l. IsPermutation l (without_row of_spent id c.spents)) (sym spents) (row_dropped of_spent id t.spents c.spents c.spents_same);
  }

module _ (listed before : List VoucherCount) where
  pub counts_follow : (changes : List Change) (from to : ℕ) (t u : Tables) → AreTurned changes from to t u → (dropped : Bool) → puts_come_first dropped changes ≡ true → (lists : Lists)
      → Counted listed before lists.vouchers dropped t → (last : Bool) × Counted listed before (after_all changes lists).vouchers last u
  counts_follow [] from to t u h dropped first lists c = (dropped, subst (Counted listed before lists.vouchers dropped) h.1 c)
  counts_follow (PutItem row ∷ changes) from to t u h dropped first lists c =
      counts_follow changes h.0 to h.1 u h.3 dropped first (after_change (PutItem row) lists) (counted_on listed before lists.vouchers t h.1 dropped c h.2.redeemed h.2.spents)
  counts_follow (PutVariation row ∷ changes) from to t u h dropped first lists c =
      counts_follow changes h.0 to h.1 u h.3 dropped first (after_change (PutVariation row) lists) (counted_on listed before lists.vouchers t h.1 dropped c h.2.redeemed h.2.spents)
  counts_follow (PutQuota row ∷ changes) from to t u h dropped first lists c =
      counts_follow changes h.0 to h.1 u h.3 dropped first (after_change (PutQuota row) lists) (counted_on listed before lists.vouchers t h.1 dropped c h.2.redeemed h.2.spents)
  counts_follow (PutVoucher row ∷ changes) from to t u h true first lists c = absurd (let e : false ≡ true = first in cc)
  counts_follow (PutVoucher row ∷ changes) from to t u h false first lists c =
      counts_follow changes h.0 to h.1 u h.3 false first (after_change (PutVoucher row) lists) (counted_put listed before lists.vouchers t h.1 row c h.2.redeemed h.2.spents)
  counts_follow (PutCart row ∷ changes) from to t u h dropped first lists c =
      counts_follow changes h.0 to h.1 u h.3 dropped first (after_change (PutCart row) lists) (counted_on listed before lists.vouchers t h.1 dropped c h.2.redeemed h.2.spents)
  counts_follow (PutOrder row ∷ changes) from to t u h dropped first lists c =
      counts_follow changes h.0 to h.1 u h.3 dropped first (after_change (PutOrder row) lists) (counted_on listed before lists.vouchers t h.1 dropped c h.2.redeemed h.2.spents)
  counts_follow (PutPosition row ∷ changes) from to t u h dropped first lists c =
      counts_follow changes h.0 to h.1 u h.3 dropped first (after_change (PutPosition row) lists) (counted_on listed before lists.vouchers t h.1 dropped c h.2.redeemed h.2.spents)
  counts_follow (PutWaiting row ∷ changes) from to t u h dropped first lists c =
      counts_follow changes h.0 to h.1 u h.3 dropped first (after_change (PutWaiting row) lists) (counted_on listed before lists.vouchers t h.1 dropped c h.2.redeemed h.2.spents)
  counts_follow (DropVoucher id ∷ changes) from to t u h dropped first lists c =
      counts_follow changes h.0 to h.1 u h.3 true first (after_change (DropVoucher id) lists) (counted_drop listed before lists.vouchers t h.1 dropped id c h.2.redeemed h.2.spents)
  counts_follow (DropCart id ∷ changes) from to t u h dropped first lists c =
      counts_follow changes h.0 to h.1 u h.3 dropped first (after_change (DropCart id) lists) (counted_on listed before lists.vouchers t h.1 dropped c h.2.redeemed h.2.spents)
  counts_follow (DropWaiting id ∷ changes) from to t u h dropped first lists c =
      counts_follow changes h.0 to h.1 u h.3 dropped first (after_change (DropWaiting id) lists) (counted_on listed before lists.vouchers t h.1 dropped c h.2.redeemed h.2.spents)
  counts_follow (PutCheckinList row ∷ changes) from to t u h dropped first lists c =
      counts_follow changes h.0 to h.1 u h.3 dropped first (after_change (PutCheckinList row) lists) (counted_on listed before lists.vouchers t h.1 dropped c h.2.redeemed h.2.spents)
  counts_follow (PutCheckin row ∷ changes) from to t u h dropped first lists c =
      counts_follow changes h.0 to h.1 u h.3 dropped first (after_change (PutCheckin row) lists) (counted_on listed before lists.vouchers t h.1 dropped c h.2.redeemed h.2.spents)
