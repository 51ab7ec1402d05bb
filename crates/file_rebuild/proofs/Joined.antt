-- Rows with their members, and when they are whole.
use Rattle.std.proofs.Common.{◌≡◌, ◌↔◌, ℕ, ◌+◌, List, [], ◌∷◌, map, length, Result, Ok, Err, IfErr, refl, sym, ap, ap₂, subst, ◌∙◌}
use Rattle.std.specs.Result.{IsErrAnd}
use Rattle.std.specs.List.{zip, flat_map}
use Rattle.std.specs.List.Sorted.{IsPermutation}
use Rattle.std.proofs.lemmas.List.Sorted.{IsPermutation-refl}
use Rattle.std.proofs.lemmas.List.{length-map}
use Rattle.base_tables.specs.Rising.{rising}
use Rattle.base_tables.specs.Tables.{InOrderFrom, AreInOrder}
use Rattle.model_catalogue.specs.declared.rows.Quota.{Quota}
use Rattle.model_rows.specs.declared.rows.CheckinList.{CheckinList}
use Rattle.model_rows.specs.declared.rows.OrderPos.{OrderPos}
use Rattle.model_rows.specs.declared.rows.Voucher.{Voucher}
use Rattle.model_rows.specs.declared.count_rows.QuotaCount.{QuotaCount}
use Rattle.model_rows.specs.declared.count_rows.VoucherCount.{VoucherCount}
use Rattle.file_rows.specs.declared.rows.CountRow.{CountRow}
use Rattle.file_rows.specs.declared.rows.ExitRow.{ExitRow}
use Rattle.file_rows.specs.declared.rows.ListItem.{ListItem}
use Rattle.file_rows.specs.declared.rows.ListRow.{ListRow}
use Rattle.file_rows.specs.declared.rows.QuotaRow.{QuotaRow}
use Rattle.file_rows.specs.declared.rows.ReleaseRow.{ReleaseRow}
use Rattle.file_rows.specs.declared.rows.SpentRow.{SpentRow}
use Rattle.file_rows.specs.declared.rows.VoucherRow.{VoucherRow}
use Rattle.file_rows.specs.Changes.{head_of_quota, head_of_voucher, head_of_position, head_of_list}
use Rattle.file_rows.specs.declared.table_rows.TableRows.{TableRows}
use Rattle.file_meaning.specs.Links.{Link, all_links}
use Rattle.file_meaning.specs.Rows.{releases_of, budgets_of, discounts_of, usage_in}
use Rattle.file_meaning.specs.Stands.{AreRowsOf}
use Rattle.file_meaning.proofs.Told.{map_back}
use Rattle.file_rebuild.specs.Arranged.{item_link, variation_link, release_link, list_link, budget_link, discount_link, count_in, is_any, quota_of, list_of, voucher_with, position_with, rows_in, told_by}
use Rattle.file_rebuild.specs.Members.{members_told, members_of, links_of}
use Rattle.file_rebuild.proofs.Offices.{quota_links, variation_links, release_links, list_links}
use Rattle.file_rebuild.proofs.Parts.{all_told}

-- ---- members of ids

each_sorted : {V : Type 0} (items : V → List ℕ) (vs : List V) → map (λ v. rising (items v)) vs ≡ map rising (map items vs)
each_sorted items [] = refl
each_sorted items (v ∷ vs) = ap (λ l. rising (items v) ∷ l) (each_sorted items vs)

-- what was told of each id, sorted
pub sorted_members : {V : Type 0} (items : V → List ℕ) (vs : List V) (each : List (List ℕ)) (ids : List ℕ) (ls : List Link) → each ≡ map (λ v. rising (items v)) vs → map items vs ≡ map (λ id. members_told id ls) ids → each ≡ map (λ id. members_of id ls) ids
sorted_members items vs each ids ls e same = e ∙ each_sorted items vs ∙ ap (map rising) same ∙ sym (each_sorted (λ id. members_told id ls) ids)

-- they are whole where there are as many as links
pub members_whole : {L : Type 0} (link : L → Link) (links : List L) (ids : List ℕ) (each given : List (List ℕ)) (W : Type 0) → AreInOrder (λ n. n) ids → each ≡ map (λ id. members_of id (map link links)) ids → given ≡ each
    → (W ↔ (length (flat_map (λ m. m) given) ≡ length links)) → W ↔ IsPermutation (map link links) (links_of ids (map link links))
members_whole link links ids each given W h e g so =
    let same = g ∙ e in
    let all = all_told ids (map link links) h in
    let count = length-map links link in
    (λ w. all.0 (subst (λ es. length (flat_map (λ m. m) es) ≡ length (map link links)) same (so.0 w ∙ sym count)), λ p. so.1 (subst (λ es. length (flat_map (λ m. m) es) ≡ length (map link links)) (sym same) (all.1 p) ∙ count))

-- ---- check-in lists

lists_joined : (i : List Link) (heads : List ListRow)
    → map (λ (p : ListRow × List ℕ). record { id = p.0.id; name = p.0.name; all_products = p.0.all_products; limit_products = p.1; include_pending = p.0.include_pending; allow_multiple_entries = p.0.allow_multiple_entries; allow_entry_after_exit = p.0.allow_entry_after_exit })
    (zip heads (map (λ id. members_of id i) (map (λ (h : ListRow). h.id) heads))) ≡ map (list_of i) heads
lists_joined i [] = refl
lists_joined i (h ∷ heads) = ap (λ l. list_of i h ∷ l) (lists_joined i heads)

pub lists_are : (heads : List ListRow) (items given : List ListItem) (ids : List ℕ) (each : List (List ℕ)) (lists : List CheckinList) → ids ≡ map (λ (h : ListRow). h.id) heads → given ≡ items
    → each ≡ map (λ id. members_of id (map list_link given)) ids
    → lists ≡ map (λ (p : ListRow × List ℕ). record { id = p.0.id; name = p.0.name; all_products = p.0.all_products; limit_products = p.1; include_pending = p.0.include_pending; allow_multiple_entries = p.0.allow_multiple_entries; allow_entry_after_exit = p.0.allow_entry_after_exit }) (zip heads each)
    → lists ≡ map (list_of (map list_link items)) heads
lists_are heads items given ids each lists of_heads same told joined =
    let all : each ≡ map (λ id. members_of id (map list_link items)) (map (λ (h : ListRow). h.id) heads) = told ∙ ap₂ (λ g n. map (λ id. members_of id (map list_link g)) n) same of_heads in
    joined ∙ ap (λ e. map (λ (p : ListRow × List ℕ). record { id = p.0.id; name = p.0.name; all_products = p.0.all_products; limit_products = p.1; include_pending = p.0.include_pending; allow_multiple_entries = p.0.allow_multiple_entries; allow_entry_after_exit = p.0.allow_entry_after_exit }) (zip heads e)) all
    ∙ lists_joined (map list_link items) heads

pub lists_whole : (heads : List ListRow) (items given : List ListItem) (ids : List ℕ) (lists : List CheckinList) (W : Type 0) → ids ≡ map (λ (h : ListRow). h.id) heads → given ≡ items
    → lists ≡ map (list_of (map list_link items)) heads → (W ↔ IsPermutation (map list_link given) (links_of ids (map list_link given)))
    → W ↔ IsPermutation (map list_link items) (all_links (λ (l : CheckinList). l.id) (λ (l : CheckinList). l.limit_products) lists)
lists_whole heads items given ids lists W of_heads same are whole =
    let q : links_of ids (map list_link items) ≡ all_links (λ (l : CheckinList). l.id) (λ (l : CheckinList). l.limit_products) lists =
    ap (λ n. links_of n (map list_link items)) of_heads ∙ sym (list_links (map list_link items) heads) ∙ ap (all_links (λ (l : CheckinList). l.id) (λ (l : CheckinList). l.limit_products)) (sym are) in
    subst (λ ls. W ↔ IsPermutation (map list_link items) ls) q (subst (λ g. W ↔ IsPermutation (map list_link g) (links_of ids (map list_link g))) same whole)

-- ---- quotas

quotas_joined : (i v r : List Link) (heads : List QuotaRow)
    → map (λ (p : ((QuotaRow × List ℕ) × List ℕ) × List ℕ). record { id = p.0.0.0.id; name = p.0.0.0.name; release_after_exit = is_any p.1; size = p.0.0.0.size; items = p.0.0.1; variations = p.0.1 })
    (zip (zip (zip heads (map (λ id. members_of id i) (map (λ (h : QuotaRow). h.id) heads))) (map (λ id. members_of id v) (map (λ (h : QuotaRow). h.id) heads))) (map (λ id. members_of id r) (map (λ (h : QuotaRow). h.id) heads))) ≡ map (quota_of i v r) heads
quotas_joined i v r [] = refl
quotas_joined i v r (h ∷ heads) = ap (λ l. quota_of i v r h ∷ l) (quotas_joined i v r heads)

-- members of ids, as links are given
pub each_is : {L : Type 0} (link : L → Link) (heads : List QuotaRow) (links given : List L) (ids : List ℕ) (each : List (List ℕ)) → ids ≡ map (λ (h : QuotaRow). h.id) heads → given ≡ links → each ≡ map (λ id. members_of id (map link given)) ids
    → each ≡ map (λ id. members_of id (map link links)) (map (λ (h : QuotaRow). h.id) heads)
each_is link heads links given ids each of_heads same told = told ∙ ap₂ (λ g n. map (λ id. members_of id (map link g)) n) same of_heads

pub quotas_are : (i v r : List Link) (heads : List QuotaRow) (items variations releases : List (List ℕ)) (quotas : List Quota) → items ≡ map (λ id. members_of id i) (map (λ (h : QuotaRow). h.id) heads) → variations ≡ map (λ id. members_of id v) (map (λ (h : QuotaRow). h.id) heads) → releases ≡ map (λ id. members_of id r) (map (λ (h : QuotaRow). h.id) heads)
    → quotas ≡ map (λ (p : ((QuotaRow × List ℕ) × List ℕ) × List ℕ). record { id = p.0.0.0.id; name = p.0.0.0.name; release_after_exit = is_any p.1; size = p.0.0.0.size; items = p.0.0.1; variations = p.0.1 }) (zip (zip (zip heads items) variations) releases)
    → quotas ≡ map (quota_of i v r) heads
quotas_are i v r heads items variations releases quotas of_items of_variations of_releases joined =
    joined ∙ ap₂ (λ e f. map (λ (p : ((QuotaRow × List ℕ) × List ℕ) × List ℕ). record { id = p.0.0.0.id; name = p.0.0.0.name; release_after_exit = is_any p.1; size = p.0.0.0.size; items = p.0.0.1; variations = p.0.1 }) (zip (zip (zip heads e) f) releases)) of_items of_variations
    ∙ ap (λ g. map (λ (p : ((QuotaRow × List ℕ) × List ℕ) × List ℕ). record { id = p.0.0.0.id; name = p.0.0.0.name; release_after_exit = is_any p.1; size = p.0.0.0.size; items = p.0.0.1; variations = p.0.1 }) (zip (zip (zip heads (map (λ id. members_of id i) (map (λ (h : QuotaRow). h.id) heads))) (map (λ id. members_of id v) (map (λ (h : QuotaRow). h.id) heads))) g)) of_releases
    ∙ quotas_joined i v r heads

-- links are whole where they are those of the quotas that they tell
pub links_whole : {L : Type 0} (link : L → Link) (heads : List QuotaRow) (links given : List L) (all : List Link) (ids : List ℕ) (W : Type 0) → ids ≡ map (λ (h : QuotaRow). h.id) heads → given ≡ links
    → links_of (map (λ (h : QuotaRow). h.id) heads) (map link links) ≡ all → (W ↔ IsPermutation (map link given) (links_of ids (map link given)))
    → W ↔ IsPermutation (map link links) all
links_whole link heads links given all ids W of_heads same are whole =
    subst (λ ls. W ↔ IsPermutation (map link links) ls) (ap (λ n. links_of n (map link links)) of_heads ∙ are) (subst (λ g. W ↔ IsPermutation (map link g) (links_of ids (map link g))) same whole)

-- the links of quotas that are told so
pub items_all : (i v r : List Link) (heads : List QuotaRow) (quotas : List Quota) → quotas ≡ map (quota_of i v r) heads → links_of (map (λ (h : QuotaRow). h.id) heads) i ≡ all_links (λ (q : Quota). q.id) (λ (q : Quota). q.items) quotas
items_all i v r heads quotas are = sym (quota_links i v r heads) ∙ ap (all_links (λ (q : Quota). q.id) (λ (q : Quota). q.items)) (sym are)

pub variations_all : (i v r : List Link) (heads : List QuotaRow) (quotas : List Quota) → quotas ≡ map (quota_of i v r) heads → links_of (map (λ (h : QuotaRow). h.id) heads) v ≡ all_links (λ (q : Quota). q.id) (λ (q : Quota). q.variations) quotas
variations_all i v r heads quotas are = sym (variation_links i v r heads) ∙ ap (all_links (λ (q : Quota). q.id) (λ (q : Quota). q.variations)) (sym are)

pub releases_all : (i v : List Link) (rows : List ReleaseRow) (heads : List QuotaRow) (quotas : List Quota) → quotas ≡ map (quota_of i v (map release_link rows)) heads → links_of (map (λ (h : QuotaRow). h.id) heads) (map release_link rows) ≡ all_links (λ (q : Quota). q.id) releases_of quotas
releases_all i v rows heads quotas are = sym (release_links i v rows heads) ∙ ap (all_links (λ (q : Quota). q.id) releases_of) (sym are)

pub both_whole : (W A B P Q : Type 0) → (W ↔ (A × B)) → (A ↔ P) → (B ↔ Q) → W ↔ (P × Q)
both_whole W A B P Q both a b = (λ w. (a.0 (both.0 w).0, b.0 (both.0 w).1), λ p. both.1 (a.1 p.0, b.1 p.1))

-- ---- all of it

quota_heads : (i v r : List Link) (heads : List QuotaRow) → map head_of_quota (map (quota_of i v r) heads) ≡ heads
quota_heads i v r [] = refl
quota_heads i v r (h ∷ heads) = ap (λ l. h ∷ l) (quota_heads i v r heads)

list_heads : (i : List Link) (heads : List ListRow) → map head_of_list (map (list_of i) heads) ≡ heads
list_heads i [] = refl
list_heads i (h ∷ heads) = ap (λ l. h ∷ l) (list_heads i heads)

abbrev pub QuotasWhole : TableRows → List Quota → Type 0
QuotasWhole tables quotas =
    (IsPermutation (map item_link tables.catalogue.quota_items.items) (all_links (λ q. q.id) (λ q. q.items) quotas) × IsPermutation (map variation_link tables.catalogue.quota_variations.items) (all_links (λ q. q.id) (λ q. q.variations) quotas))
    × IsPermutation (map release_link tables.catalogue.releases.items) (all_links (λ q. q.id) releases_of quotas)

abbrev pub ListsWhole : TableRows → List CheckinList → Type 0
ListsWhole tables lists = IsPermutation (map list_link tables.doors.list_items.items) (all_links (λ l. l.id) (λ l. l.limit_products) lists)

abbrev pub SalesWhole : TableRows → List Voucher → List OrderPos → Type 0
SalesWhole tables vouchers positions =
    IsPermutation (map budget_link tables.sales.budgets.items) (all_links (λ v. v.id) budgets_of vouchers) × IsPermutation (map discount_link tables.sales.discounts.items) (all_links (λ p. p.id) discounts_of positions)

pub all_whole : (tables : TableRows) (quotas : List Quota) (lists : List CheckinList) (vouchers : List Voucher) (positions : List OrderPos) → quotas ≡ (told_by (rows_in tables)).catalogue.quotas → lists ≡ (told_by (rows_in tables)).checkin_lists
    → vouchers ≡ (told_by (rows_in tables)).vouchers → positions ≡ (told_by (rows_in tables)).positions → ((QuotasWhole tables quotas × ListsWhole tables lists) × SalesWhole tables vouchers positions) ↔ AreRowsOf (told_by (rows_in tables)) (rows_in tables)
all_whole tables quotas lists vouchers positions q l v p =
    let rows = rows_in tables in (
      λ w.
          let here : QuotasWhole tables (told_by rows).catalogue.quotas = subst (QuotasWhole tables) q w.0.0 in
          let sales : SalesWhole tables (told_by rows).vouchers (told_by rows).positions = subst (λ ps. SalesWhole tables (told_by rows).vouchers ps) p (subst (λ vs. SalesWhole tables vs positions) v w.1) in
          record {
            items = IsPermutation-refl rows.items;
            variations = IsPermutation-refl rows.variations;
            quotas = subst (IsPermutation rows.quotas) (sym (quota_heads rows.quota_items rows.quota_variations rows.quota_release rows.quotas)) (IsPermutation-refl rows.quotas);
            quota_items = here.0.0;
            quota_variations = here.0.1;
            quota_release = here.1;
            vouchers = subst (IsPermutation rows.vouchers) (sym (map_back (voucher_with rows.voucher_budget) head_of_voucher (λ h. refl) rows.vouchers)) (IsPermutation-refl rows.vouchers);
            voucher_budget = sales.0;
            carts = IsPermutation-refl rows.carts;
            orders = IsPermutation-refl rows.orders;
            positions = subst (IsPermutation rows.positions) (sym (map_back (position_with rows.position_discount) head_of_position (λ h. refl) rows.positions)) (IsPermutation-refl rows.positions);
            position_discount = sales.1;
            waiting = IsPermutation-refl rows.waiting;
            checkin_lists = subst (IsPermutation rows.checkin_lists) (sym (list_heads rows.list_items rows.checkin_lists)) (IsPermutation-refl rows.checkin_lists);
            list_items = subst (ListsWhole tables) l w.0.1;
            checkins = IsPermutation-refl rows.checkins;
          },
      λ h. (
        (subst (QuotasWhole tables) (sym q) ((h.quota_items, h.quota_variations), h.quota_release), subst (ListsWhole tables) (sym l) h.list_items),
        subst (λ vs. SalesWhole tables vs positions) (sym v) (subst (λ ps. SalesWhole tables (told_by rows).vouchers ps) (sym p) (h.voucher_budget, h.position_discount)),
      ),
    )

-- ---- counts

-- counts in order with their exits are in order
pub used_rise : (n : ℕ) (counts : List CountRow) (exits : List ExitRow) → InOrderFrom (λ (r : CountRow). r.quota) n counts → InOrderFrom (λ (c : QuotaCount). c.quota) n (map (λ (p : CountRow × ExitRow). usage_in p.0 p.1.exited) (zip counts exits))
used_rise n [] exits h = tt
used_rise n (w ∷ counts) [] h = tt
used_rise n (w ∷ counts) (e ∷ exits) h = (h.0, used_rise (w.quota + 1) counts exits h.1)

-- so are those of vouchers with what is spent
pub uses_rise : (n : ℕ) (vouchers : List VoucherRow) (spents : List SpentRow) → InOrderFrom (λ (r : VoucherRow). r.voucher.id) n vouchers → InOrderFrom (λ (c : VoucherCount). c.voucher) n (map (λ (p : VoucherRow × SpentRow). count_in p.0 p.1.spent) (zip vouchers spents))
uses_rise n [] spents h = tt
uses_rise n (w ∷ vouchers) [] h = tt
uses_rise n (w ∷ vouchers) (x ∷ spents) h = (h.0, uses_rise (w.voucher.id + 1) vouchers spents h.1)

pub counts_with : (vouchers : List VoucherRow) (spents : List SpentRow)
    → map (λ (p : VoucherCount × SpentRow). record { voucher = p.0.voucher; redeemed = p.0.redeemed; spent = p.1.spent }) (zip (map (λ r. count_in r 0) vouchers) spents) ≡ map (λ (p : VoucherRow × SpentRow). count_in p.0 p.1.spent) (zip vouchers spents)
counts_with [] spents = refl
counts_with (w ∷ vouchers) [] = refl
counts_with (w ∷ vouchers) (x ∷ spents) = ap (λ l. count_in w x.spent ∷ l) (counts_with vouchers spents)

-- ---- why rows aren't arranged

-- a refusal that is handed on as it is
pub handed_on : {A E : Type 0} (r : Result A E) (P : E → Type 0) (e : E) → IsErrAnd r (λ f. f ≡ e) → P e → IfErr r P
handed_on (Ok a) P e h p = tt
handed_on (Err f) P e h p = subst P (sym h) p
