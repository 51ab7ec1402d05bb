-- Tables that hold an office are opened as that office.
use Rattle.std.proofs.Common.{◌≡◌, ◌<◌, ℕ, List, map, [], ◌∷◌, refl, sym, ap, subst, ◌∙◌}
use Rattle.std.specs.List.Sorted.{IsPermutation}
use Rattle.std.proofs.lemmas.List.Sorted.{IsPermutation-map, IsPermutation-sym, IsPermutation-trans}
use Rattle.sqlite_trees.specs.Tree.{Trees}
use Rattle.sqlite_trees.proofs.ListLemmas.{all-permutation, map-map}
use Rattle.sqlite.proofs.Callers.{one_permutation}
use Rattle.base_values.specs.Slugs.{IsSlug}
use Rattle.model_rows.specs.Lists.{State}
use Rattle.model_rows.specs.CountRows.{quota_count, quota_counts, voucher_count, voucher_counts}
use Rattle.model_rows.specs.declared.count_rows.QuotaCount.{QuotaCount}
use Rattle.model_rows.specs.declared.count_rows.VoucherCount.{VoucherCount}
use Rattle.base_tables.specs.Tables.{AreInOrder}
use Rattle.model_invariant.specs.Sound.{IsSound}
use Rattle.model_answers.specs.declared.kept.Kept.{Kept}
use Rattle.model_answers.specs.ShopView.{IsSame}
use Rattle.file_rows.specs.declared.rows.ShopRow.{ShopRow}
use Rattle.file_rows.specs.declared.rows.Token.{Token}
use Rattle.file_rows.specs.Changes.{head_of_count, head_of_exit, head_of_spent}
use Rattle.file_rows.specs.Rows.{shop_row}
use Rattle.file_rows.specs.Tables.{Tables, Holds}
use Rattle.file_reads.proofs.Back.{alike, shop_in, shop_back}
use Rattle.file_meaning.specs.Rows.{OfficeRows, head_of_redeemed, rows_of}
use Rattle.file_meaning.specs.Stands.{AreRowsOf, AreSameRows, Stand}
use Rattle.file_meaning.proofs.Follow.{rows_along}
use Rattle.file_meaning.proofs.Order.{same_order}
use Rattle.file_meaning.proofs.Told.{order_of_parts}
use Rattle.model_damage.specs.declared.rule.Rule.{Rule}
use Rattle.model_damage.specs.Rules.{File, IsCounted, Keeps}
use Rattle.model_damage.proofs.Sounds.{keeps_all}
use Rattle.file_scan.specs.declared.file.FileTables.{FileTables}
use Rattle.file_scan.specs.Read.{IsFileOf}
use Rattle.file_scan.proofs.SameLemmas.{file_of}
use Rattle.file_rebuild.specs.Arranged.{file_arranged, rows_in, told_by, ArePaired, AreReadInOrder}
use Rattle.file_rebuild.proofs.Offices.{office_told}
use Rattle.file_tables.proofs.Told.{one_shop}
use Rattle.file_meaning.specs.Typed.{AreBelowNext}
use Rattle.file_open.specs.Opened.{IsDamagedBy, IsLeastOf}
use Rattle.file_open.proofs.Least.{kept_in}
use Rattle.file_open.proofs.Paired.{pairs, pairs_back, are_paired, uses, uses_of, uses_back, are_uses}
use Rattle.file_open.proofs.Refused.{same_rows as read_rows}

same_again : (a b : OfficeRows) → AreSameRows a b → AreSameRows b a
same_again a b h = record {
  items = IsPermutation-sym _ _ h.items;
  variations = IsPermutation-sym _ _ h.variations;
  quotas = IsPermutation-sym _ _ h.quotas;
  quota_items = IsPermutation-sym _ _ h.quota_items;
  quota_variations = IsPermutation-sym _ _ h.quota_variations;
  quota_release = IsPermutation-sym _ _ h.quota_release;
  vouchers = IsPermutation-sym _ _ h.vouchers;
  voucher_budget = IsPermutation-sym _ _ h.voucher_budget;
  carts = IsPermutation-sym _ _ h.carts;
  orders = IsPermutation-sym _ _ h.orders;
  positions = IsPermutation-sym _ _ h.positions;
  position_discount = IsPermutation-sym _ _ h.position_discount;
  waiting = IsPermutation-sym _ _ h.waiting;
  checkin_lists = IsPermutation-sym _ _ h.checkin_lists;
  list_items = IsPermutation-sym _ _ h.list_items;
  checkins = IsPermutation-sym _ _ h.checkins;
}

-- one row is one shop
one_row : (rows : List ShopRow) (a b : ShopRow) → rows ≡ a ∷ [] → rows ≡ b ∷ [] → a ≡ b
one_row rows a b h k = let is : a ∷ [] ≡ b ∷ [] = sym h ∙ k in cc

module _ (head : ShopRow) (t : Tables) (s : State) (ks : List Kept) (stand : Stand head t s ks) where
  module _ (read : FileTables) (of : IsFileOf t read) (order : AreReadInOrder read.shop read.tables) where
    abbrev file : File
    file = file_arranged read.shop read.tables

    shop_is : read.shop ≡ head
    shop_is = one_row t.shop read.shop head of.shop stand.shop_is

    rows_are : AreRowsOf s.lists (rows_in read.tables)
    rows_are = rows_along s.lists (rows_in read.tables) (rows_of t) (same_again (rows_of t) (rows_in read.tables) (read_rows t read.tables of.tables)) stand.rows

    lists_are : told_by (rows_in read.tables) ≡ s.lists
    lists_are = office_told s.lists (rows_in read.tables) stand.ordered order.file.lists rows_are

    state_is : file.state ≡ s
    state_is =
        let next = ap (λ (h : ShopRow). h.next) shop_is ∙ stand.next in
        let moment = ap (λ (h : ShopRow). h.moment) shop_is ∙ stand.moment in
        λ i. record { lists = lists_are i; next = next i; moment = moment i }

    -- what is made of the counts rises by quota
    in_order : {R : Type 0} (head_of : QuotaCount → R) (quota : R → ℕ) → ((w : QuotaCount) → quota (head_of w) ≡ w.quota) → AreInOrder quota (map head_of (quota_counts s))
    in_order head_of quota is =
        subst (AreInOrder quota) (sym (map-map head_of (quota_count s) s.lists.catalogue.quotas)) (order_of_parts (λ q. q.id) (λ q. head_of (quota_count s q)) quota (λ q. is (quota_count s q)) 0 s.lists.catalogue.quotas stand.ordered.ids.quotas)

    counts_are : read.tables.others.counts.items ≡ map head_of_count (quota_counts s)
    counts_are =
        same_order (λ r. r.quota) read.tables.others.counts.items (map head_of_count (quota_counts s)) order.counts.counts (in_order head_of_count (λ r. r.quota) (λ w. refl))
        (IsPermutation-trans _ _ _ (IsPermutation-sym _ _ of.tables.others.counts) stand.used)

    exits_are : read.tables.others.exits.items ≡ map head_of_exit (quota_counts s)
    exits_are =
        same_order (λ r. r.quota) read.tables.others.exits.items (map head_of_exit (quota_counts s)) order.counts.exits (in_order head_of_exit (λ r. r.quota) (λ w. refl))
        (IsPermutation-trans _ _ _ (IsPermutation-sym _ _ of.tables.others.exits) stand.exits)

    used_is : file.used ≡ quota_counts s
    used_is = ap (λ l. pairs l read.tables.others.exits.items) counts_are ∙ ap (pairs (map head_of_count (quota_counts s))) exits_are ∙ pairs_back (quota_counts s)

    -- so does what is made of those of vouchers
    uses_in_order : {R : Type 0} (head_of : VoucherCount → R) (voucher : R → ℕ) → ((w : VoucherCount) → voucher (head_of w) ≡ w.voucher) → AreInOrder voucher (map head_of (voucher_counts s))
    uses_in_order head_of voucher is =
        subst (AreInOrder voucher) (sym (map-map head_of (voucher_count s) s.lists.vouchers)) (order_of_parts (λ v. v.id) (λ v. head_of (voucher_count s v)) voucher (λ v. is (voucher_count s v)) 0 s.lists.vouchers stand.ordered.ids.vouchers)

    uses_are : map uses_of read.tables.sales.vouchers.items ≡ map head_of_redeemed (voucher_counts s)
    uses_are =
        same_order (λ w. w.voucher) (map uses_of read.tables.sales.vouchers.items) (map head_of_redeemed (voucher_counts s)) (order_of_parts (λ r. r.voucher.id) uses_of (λ w. w.voucher) (λ r. refl) 0 read.tables.sales.vouchers.items order.sales.vouchers)
        (uses_in_order head_of_redeemed (λ w. w.voucher) (λ w. refl)) (IsPermutation-trans _ _ _ (IsPermutation-sym _ _ (IsPermutation-map uses_of _ _ of.tables.sales.vouchers)) stand.redeemed)

    spents_are : read.tables.others.spents.items ≡ map head_of_spent (voucher_counts s)
    spents_are =
        same_order (λ r. r.voucher_id) read.tables.others.spents.items (map head_of_spent (voucher_counts s)) order.counts.spents (uses_in_order head_of_spent (λ r. r.voucher_id) (λ w. refl))
        (IsPermutation-trans _ _ _ (IsPermutation-sym _ _ of.tables.others.spents) stand.spents)

    redeemed_is : file.redeemed ≡ voucher_counts s
    redeemed_is = ap (uses read.tables.sales.vouchers.items) spents_are ∙ uses_back read.tables.sales.vouchers.items (voucher_counts s) uses_are

    paired : ArePaired read.tables
    paired = record {
      exits = rw (counts_are, exits_are) (are_paired (quota_counts s));
      spents = rw spents_are (are_uses read.tables.sales.vouchers.items (voucher_counts s) uses_are);
    }

    counted : IsCounted file
    counted = record { used = used_is ∙ ap quota_counts (sym state_is); redeemed = redeemed_is ∙ ap voucher_counts (sym state_is) }

    keeps : IsSlug head.organizer → IsSlug head.event → IsSound s → (rule : Rule) → Keeps rule file
    keeps organizer event sound rule =
        keeps_all file rule (subst (λ (h : ShopRow). IsSlug h.organizer) (sym shop_is) organizer) (subst (λ (h : ShopRow). IsSlug h.event) (sym shop_is) event) (subst IsSound (sym state_is) sound) counted

    below : AreBelowNext head t.tokens → AreBelowNext read.shop read.tables.others.tokens.items
    below numbered = subst (λ (h : ShopRow). AreBelowNext h read.tables.others.tokens.items) (sym shop_is) (all-permutation (λ (w : Token). w.id < head.next_token) t.tokens read.tables.others.tokens.items of.tables.others.tokens numbered)

  -- rows that were read of them break no rule
  pub unbroken : (read : FileTables) → IsFileOf t read → AreReadInOrder read.shop read.tables → AreBelowNext head t.tokens → IsSlug head.organizer → IsSlug head.event → IsSound s → (rule : Rule) → ¬ IsLeastOf read rule
  unbroken read of order numbered organizer event sound rule least =
      let rows = rows_in read.tables in
      let whole : AreRowsOf (told_by rows) rows = subst (λ l. AreRowsOf l rows) (sym (lists_are read of order)) (rows_are read of order) in
      least.broken (kept_in read.shop read.tables.others.tokens.items rows (ArePaired read.tables) (file_arranged read.shop read.tables) rule (below read of order numbered) whole (paired read of order) (keeps read of order organizer event sound rule))

  -- trees that hold them break none
  pub undamaged : (db : Trees) → Holds db t → AreBelowNext head t.tokens → IsSlug head.organizer → IsSlug head.event → IsSound s → (rule : Rule) → ¬ IsDamagedBy rule db
  undamaged db held numbered organizer event sound rule d = unbroken d.read (file_of db t d.read held d.held) d.order numbered organizer event sound rule d.least

-- what trees hold is one shop
pub same_shop : (db : Trees) (t u : Tables) → Holds db t → Holds db u → (head shop : ShopRow) (s z : State) (ks js : List Kept) → Stand head t s ks → Stand shop u z js → (shop ≡ head) × IsSame (record { state = z; kept = js }) (record { state = s; kept = ks })
same_shop db t u h k head shop s z ks js stand other =
    let shops = alike shop_row shop_in shop_back u.shop t.shop _ k.0 h.0 in
    let one : IsPermutation (shop ∷ []) (head ∷ []) = subst (λ l. IsPermutation l (head ∷ [])) other.shop_is (subst (IsPermutation u.shop) stand.shop_is shops) in
    let is : head ∷ [] ≡ shop ∷ [] = one_permutation shop (head ∷ []) one in
    (cc, one_shop db u t k h shop head z s js ks other stand)
