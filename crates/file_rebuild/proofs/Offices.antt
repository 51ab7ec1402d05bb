-- Rows in order are arranged as the box office whose rows they are.
use Rattle.std.proofs.Common.{◌≡◌, ℕ, ◌+◌, ◌≤◌, ◌==◌, nat_lt, Bool, true, false, cond, List, [], ◌∷◌, ◌++◌, map, filter, refl, sym, ap, ap₂, subst, ◌∙◌, arith, Option, Some, None, inl, inr}
use Rattle.std.specs.List.{AllByRecursion}
use Rattle.std.specs.Prelude.{option_to_list}
use Rattle.std.specs.List.Sorted.{IsPermutation}
use Rattle.std.proofs.lemmas.Bool.Decides.{nat_tests}
use Rattle.base_tables.specs.Rising.{with_ids}
use Rattle.base_tables.specs.Tables.{with_row, InOrderFrom, AreInOrder}
use Rattle.base_tables.proofs.RisingLemmas.{rising_in_order}
use Rattle.model_catalogue.specs.declared.rows.Quota.{Quota}
use Rattle.model_rows.specs.declared.rows.CheckinList.{CheckinList}
use Rattle.model_rows.specs.Lists.{Lists}
use Rattle.file_rows.specs.declared.rows.QuotaRow.{QuotaRow}
use Rattle.file_rows.specs.declared.rows.ListRow.{ListRow}
use Rattle.file_rows.specs.declared.rows.ReleaseRow.{ReleaseRow}
use Rattle.file_rows.specs.Changes.{head_of_quota, head_of_voucher, head_of_position, head_of_list}
use Rattle.file_meaning.specs.Links.{Link, all_links}
use Rattle.file_meaning.specs.Rows.{OfficeRows, releases_of, budgets_of, discounts_of, budget_in, discount_in, voucher_of, position_of}
use Rattle.file_meaning.specs.Stands.{AreRowsOf, AreOrdered, MembersRise, ItemsRise}
use Rattle.file_meaning.proofs.Order.{same_order}
use Rattle.file_meaning.proofs.Told.{all_map, order_of_parts, voucher_back, position_back}
use Rattle.file_rebuild.specs.Arranged.{release_link, is_any, quota_of, list_of, told_by}
use Rattle.file_rebuild.specs.Members.{members_told, members_of, links_to, links_of}
use Rattle.file_rebuild.proofs.Parts.{IsFew, few_back, members_back}

-- ---- what is arranged

pub quota_links : (i v r : List Link) (heads : List QuotaRow) → all_links (λ (q : Quota). q.id) (λ (q : Quota). q.items) (map (quota_of i v r) heads) ≡ links_of (map (λ (h : QuotaRow). h.id) heads) i
quota_links i v r [] = refl
quota_links i v r (h ∷ heads) = ap (λ l. links_to (members_of h.id i) h.id ++ l) (quota_links i v r heads)

pub variation_links : (i v r : List Link) (heads : List QuotaRow) → all_links (λ (q : Quota). q.id) (λ (q : Quota). q.variations) (map (quota_of i v r) heads) ≡ links_of (map (λ (h : QuotaRow). h.id) heads) v
variation_links i v r [] = refl
variation_links i v r (h ∷ heads) = ap (λ l. links_to (members_of h.id v) h.id ++ l) (variation_links i v r heads)

-- an id that is told again is told once
once_more : (id : ℕ) → with_row (λ n. n) id (id ∷ []) ≡ id ∷ []
once_more id = let test : (id == id) ≡ true = grind (arith, nat_tests) in let no : nat_lt id id ≡ false = grind (arith, nat_tests) in rw no (rw test refl)

stays_told : (id : ℕ) (rows : List ReleaseRow) → with_ids (members_told id (map release_link rows)) (id ∷ []) ≡ id ∷ []
stays_told id [] = refl
stays_told id (w ∷ rows) =
    elim (w.quota == id) as (λ b. (w.quota == id) ≡ b → with_ids (map (λ (l : Link). l.member) (cond b (release_link w ∷ filter (λ (l : Link). l.owner == id) (map release_link rows)) (filter (λ (l : Link). l.owner == id) (map release_link rows)))) (id ∷ []) ≡ id ∷ []) [
      | true ↦ λ e.
          let is : w.quota ≡ id = grind (arith, nat_tests) in
          ap (λ n. with_ids (members_told id (map release_link rows)) (with_row (λ n. n) n (id ∷ []))) is ∙ ap (with_ids (members_told id (map release_link rows))) (once_more id) ∙ stays_told id rows
      | false ↦ λ e. stays_told id rows
    ] refl

-- of a quota a link to itself is told, or none
itself_told : (id : ℕ) (rows : List ReleaseRow) → cond (is_any (members_of id (map release_link rows))) (id ∷ []) [] ≡ members_of id (map release_link rows)
itself_told id [] = refl
itself_told id (w ∷ rows) =
    elim (w.quota == id) as (λ b. (w.quota == id) ≡ b → cond (is_any (with_ids (map (λ (l : Link). l.member) (cond b (release_link w ∷ filter (λ (l : Link). l.owner == id) (map release_link rows)) (filter (λ (l : Link). l.owner == id) (map release_link rows)))) [])) (id ∷ []) []
    ≡ with_ids (map (λ (l : Link). l.member) (cond b (release_link w ∷ filter (λ (l : Link). l.owner == id) (map release_link rows)) (filter (λ (l : Link). l.owner == id) (map release_link rows)))) []) [
      | true ↦ λ e.
          let is : w.quota ≡ id = grind (arith, nat_tests) in
          let one : with_ids (members_told id (map release_link rows)) (w.quota ∷ []) ≡ id ∷ [] = ap (λ n. with_ids (members_told id (map release_link rows)) (n ∷ [])) is ∙ stays_told id rows in
          ap (λ l. cond (is_any l) (id ∷ []) []) one ∙ sym one
      | false ↦ λ e. itself_told id rows
    ] refl

pub release_links : (i v : List Link) (rows : List ReleaseRow) (heads : List QuotaRow) → all_links (λ (q : Quota). q.id) releases_of (map (quota_of i v (map release_link rows)) heads) ≡ links_of (map (λ (h : QuotaRow). h.id) heads) (map release_link rows)
release_links i v rows [] = refl
release_links i v rows (h ∷ heads) = ap₂ ◌++◌ (ap (λ l. links_to l h.id) (itself_told h.id rows)) (release_links i v rows heads)

pub list_links : (i : List Link) (heads : List ListRow) → all_links (λ (l : CheckinList). l.id) (λ (l : CheckinList). l.limit_products) (map (list_of i) heads) ≡ links_of (map (λ (h : ListRow). h.id) heads) i
list_links i [] = refl
list_links i (h ∷ heads) = ap (λ l. links_to (members_of h.id i) h.id ++ l) (list_links i heads)

pub members_rise : (i v r : List Link) (heads : List QuotaRow) → AllByRecursion MembersRise (map (quota_of i v r) heads)
members_rise i v r [] = tt
members_rise i v r (h ∷ heads) = (record { items = rising_in_order (members_told h.id i); variations = rising_in_order (members_told h.id v) }, members_rise i v r heads)

pub items_rise : (i : List Link) (heads : List ListRow) → AllByRecursion ItemsRise (map (list_of i) heads)
items_rise i [] = tt
items_rise i (h ∷ heads) = (rising_in_order (members_told h.id i), items_rise i heads)

-- ---- what a box office has

pub order_in_parts : {T U : Type 0} (key : T → ℕ) (part : T → U) (of : U → ℕ) → ((r : T) → of (part r) ≡ key r) → (n : ℕ) (rows : List T) → InOrderFrom of n (map part rows) → InOrderFrom key n rows
order_in_parts key part of is n [] h = tt
order_in_parts key part of is n (r ∷ rows) h = (subst (λ m. n ≤ m) (is r) h.0, subst (λ m. InOrderFrom key (m + 1) rows) (is r) (order_in_parts key part of is (of (part r) + 1) rows h.1))

one_rises : (b : Bool) (id : ℕ) → AreInOrder (λ n. n) (cond b (id ∷ []) [])
one_rises true id = (omega arith, tt)
one_rises false id = tt

releases_rise : (qs : List Quota) → AllByRecursion (λ q. AreInOrder (λ n. n) (releases_of q)) qs
releases_rise [] = tt
releases_rise (q ∷ qs) = (one_rises q.release_after_exit q.id, releases_rise qs)

any_back : (b : Bool) (id : ℕ) → is_any (cond b (id ∷ []) []) ≡ b
any_back true id = refl
any_back false id = refl

quotas_back : (i v r : List Link) (qs : List Quota) → map (λ (q : Quota). members_of q.id i) qs ≡ map (λ (q : Quota). q.items) qs → map (λ (q : Quota). members_of q.id v) qs ≡ map (λ (q : Quota). q.variations) qs → map (λ (q : Quota). members_of q.id r) qs ≡ map releases_of qs → map (quota_of i v r) (map head_of_quota qs) ≡ qs
quotas_back i v r [] e f g = refl
quotas_back i v r (q ∷ qs) e f g =
    let items : members_of q.id i ≡ q.items = cc in
    let variations : members_of q.id v ≡ q.variations = cc in
    let releases : members_of q.id r ≡ releases_of q = cc in
    let release : is_any (members_of q.id r) ≡ q.release_after_exit = ap is_any releases ∙ any_back q.release_after_exit q.id in
    let first : quota_of i v r (head_of_quota q) ≡ q = λ k. record { id = q.id; name = q.name; release_after_exit = release k; size = q.size; items = items k; variations = variations k } in
    ap₂ ◌∷◌ first (quotas_back i v r qs (let m : map (λ (p : Quota). members_of p.id i) qs ≡ map (λ (p : Quota). p.items) qs = cc in m) (let m : map (λ (p : Quota). members_of p.id v) qs ≡ map (λ (p : Quota). p.variations) qs = cc in m) (let m : map (λ (p : Quota). members_of p.id r) qs ≡ map releases_of qs = cc in m))

lists_back : (i : List Link) (ls : List CheckinList) → map (λ (l : CheckinList). members_of l.id i) ls ≡ map (λ (l : CheckinList). l.limit_products) ls → map (list_of i) (map head_of_list ls) ≡ ls
lists_back i [] e = refl
lists_back i (l ∷ ls) e =
    let items : members_of l.id i ≡ l.limit_products = cc in
    let first : list_of i (head_of_list l) ≡ l = λ k. record {
      id = l.id;
      name = l.name;
      all_products = l.all_products;
      limit_products = items k;
      include_pending = l.include_pending;
      allow_multiple_entries = l.allow_multiple_entries;
      allow_entry_after_exit = l.allow_entry_after_exit;
    } in
    ap₂ ◌∷◌ first (lists_back i ls (let m : map (λ (k : CheckinList). members_of k.id i) ls ≡ map (λ (k : CheckinList). k.limit_products) ls = cc in m))

quotas_told : (lists : Lists) (rows : OfficeRows) → AreOrdered lists → AreOrdered (told_by rows) → AreRowsOf lists rows → map (quota_of rows.quota_items rows.quota_variations rows.quota_release) rows.quotas ≡ lists.catalogue.quotas
quotas_told lists rows o p h =
    let i = rows.quota_items in
    let v = rows.quota_variations in
    let r = rows.quota_release in
    let qs = lists.catalogue.quotas in
    let heads : rows.quotas ≡ map head_of_quota qs =
    same_order (λ (r : QuotaRow). r.id) rows.quotas (map head_of_quota qs) (order_in_parts (λ (r : QuotaRow). r.id) (quota_of i v r) (λ (q : Quota). q.id) (λ h. refl) 0 rows.quotas p.ids.quotas)
    (order_of_parts (λ (q : Quota). q.id) head_of_quota (λ (r : QuotaRow). r.id) (λ q. refl) 0 qs o.ids.quotas) h.quotas in
    ap (map (quota_of i v r)) heads
    ∙ quotas_back i v r qs (members_back (λ (q : Quota). q.id) (λ (q : Quota). q.items) qs i o.ids.quotas (all_map MembersRise (λ q. AreInOrder (λ n. n) q.items) (λ q m. m.items) qs o.members) h.quota_items)
    (members_back (λ (q : Quota). q.id) (λ (q : Quota). q.variations) qs v o.ids.quotas (all_map MembersRise (λ q. AreInOrder (λ n. n) q.variations) (λ q m. m.variations) qs o.members) h.quota_variations)
    (members_back (λ (q : Quota). q.id) releases_of qs r o.ids.quotas (releases_rise qs) h.quota_release)

lists_told : (lists : Lists) (rows : OfficeRows) → AreOrdered lists → AreOrdered (told_by rows) → AreRowsOf lists rows → map (list_of rows.list_items) rows.checkin_lists ≡ lists.checkin_lists
lists_told lists rows o p h =
    let i = rows.list_items in
    let ls = lists.checkin_lists in
    let heads : rows.checkin_lists ≡ map head_of_list ls =
    same_order (λ (r : ListRow). r.id) rows.checkin_lists (map head_of_list ls) (order_in_parts (λ (r : ListRow). r.id) (list_of i) (λ (l : CheckinList). l.id) (λ r. refl) 0 rows.checkin_lists p.ids.checkin_lists)
    (order_of_parts (λ (l : CheckinList). l.id) head_of_list (λ (r : ListRow). r.id) (λ l. refl) 0 ls o.ids.checkin_lists) h.checkin_lists in
    ap (map (list_of i)) heads ∙ lists_back i ls (members_back (λ (l : CheckinList). l.id) (λ (l : CheckinList). l.limit_products) ls i o.ids.checkin_lists o.limits h.list_items)

-- rows in order, each of which is part of one that it tells with what is told of it
module _ {T U : Type 0} (key : T → ℕ) (part : T → U) (of : U → ℕ) (is : (r : T) → of (part r) ≡ key r) (members : T → List ℕ) (alone : (r : T) → IsFew (members r)) (whole : List ℕ → U → T) (also : (ms : List ℕ) (u : U) → key (whole ms u) ≡ of u)
    (back : (r : T) → whole (members r) (part r) ≡ r) (ls : List Link) where
  abbrev with_told : U → T
  with_told u = whole (members_told (of u) ls) u

  wholes_back : (ys : List T) → map (λ r. members_told (key r) ls) ys ≡ map members ys → map with_told (map part ys) ≡ ys
  wholes_back [] e = refl
  wholes_back (r ∷ ys) e =
      let first : members_told (key r) ls ≡ members r = cc in
      let more : map (λ s. members_told (key s) ls) ys ≡ map members ys = cc in
      ap₂ ◌∷◌ (ap (λ n. whole (members_told n ls) (part r)) (is r) ∙ ap (λ ms. whole ms (part r)) first ∙ back r) (wholes_back ys more)

  wholes_told : (xs : List U) (ys : List T) → AreInOrder key (map with_told xs) → AreInOrder key ys → IsPermutation xs (map part ys) → IsPermutation ls (all_links key members ys) → map with_told xs ≡ ys
  wholes_told xs ys h k same links =
      let parts = same_order of xs (map part ys) (order_in_parts of with_told key (λ u. also (members_told (of u) ls) u) 0 xs h) (order_of_parts key part of is 0 ys k) same in
      ap (map with_told) parts ∙ wholes_back ys (few_back key members ys ls k alone links)

budget_alone : (o : Option ℕ) → IsFew (option_to_list o)
budget_alone None = inl refl
budget_alone (Some n) = inr (n, refl)

discount_alone : (n : ℕ) (b : Bool) → IsFew (cond b [] (n ∷ []))
discount_alone n true = inl refl
discount_alone n false = inr (n, refl)

pub office_told : (lists : Lists) (rows : OfficeRows) → AreOrdered lists → AreOrdered (told_by rows) → AreRowsOf lists rows → told_by rows ≡ lists
office_told lists rows o p h =
    let items = same_order (λ r. r.id) rows.items lists.catalogue.items p.ids.items o.ids.items h.items in
    let variations = same_order (λ r. r.id) rows.variations lists.catalogue.variations p.ids.variations o.ids.variations h.variations in
    let quotas = quotas_told lists rows o p h in
    let vouchers = wholes_told (λ v. v.id) head_of_voucher (λ w. w.id) (λ v. refl) budgets_of (λ v. budget_alone v.budget) (λ ms w. voucher_of (budget_in ms) w) (λ ms w. refl) voucher_back rows.voucher_budget rows.vouchers lists.vouchers
    p.ids.vouchers o.ids.vouchers h.vouchers h.voucher_budget in
    let carts = same_order (λ r. r.id) rows.carts lists.carts p.ids.carts o.ids.carts h.carts in
    let orders = same_order (λ r. r.id) rows.orders lists.orders p.ids.orders o.ids.orders h.orders in
    let positions = wholes_told (λ p. p.id) head_of_position (λ w. w.id) (λ p. refl) discounts_of (λ p. discount_alone p.discount (p.discount == 0)) (λ ms w. position_of (discount_in ms) w) (λ ms w. refl) position_back rows.position_discount rows.positions
    lists.positions p.ids.positions o.ids.positions h.positions h.position_discount in
    let waiting = same_order (λ r. r.id) rows.waiting lists.waiting p.ids.waiting o.ids.waiting h.waiting in
    let checkin_lists = lists_told lists rows o p h in
    let checkins = same_order (λ r. r.id) rows.checkins lists.checkins p.ids.checkins o.ids.checkins h.checkins in
    λ k. record {
      catalogue = record { items = items k; variations = variations k; quotas = quotas k };
      vouchers = vouchers k;
      carts = carts k;
      orders = orders k;
      positions = positions k;
      waiting = waiting k;
      checkin_lists = checkin_lists k;
      checkins = checkins k;
    }
