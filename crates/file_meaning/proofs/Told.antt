-- The rows of a file tell one box office.
use Rattle.std.proofs.Common.{◌≡◌, ◌==◌, ℕ, ◌+◌, ◌≤◌, Bool, true, false, cond, List, [], ◌∷◌, map, Option, Some, None, refl, sym, ap, ap₂, subst, ◌∙◌, arith}
use Rattle.std.specs.List.{AllByRecursion}
use Rattle.std.specs.Prelude.{option_to_list}
use Rattle.std.specs.List.Sorted.{IsPermutation}
use Rattle.std.proofs.lemmas.Bool.{eqb-true}
use Rattle.std.proofs.lemmas.List.Sorted.{IsPermutation-sym, IsPermutation-trans}
use Rattle.base_tables.specs.Tables.{InOrderFrom, AreInOrder}
use Rattle.model_catalogue.specs.declared.rows.Quota.{Quota}
use Rattle.model_rows.specs.declared.rows.CheckinList.{CheckinList}
use Rattle.model_rows.specs.declared.rows.OrderPos.{OrderPos}
use Rattle.model_rows.specs.declared.rows.Voucher.{Voucher}
use Rattle.model_rows.specs.Lists.{Lists}
use Rattle.file_rows.specs.declared.rows.QuotaRow.{QuotaRow}
use Rattle.file_rows.specs.declared.rows.ListRow.{ListRow}
use Rattle.file_rows.specs.Changes.{head_of_quota, head_of_voucher, head_of_position, head_of_list}
use Rattle.file_meaning.specs.Links.{all_links}
use Rattle.file_meaning.specs.Rows.{OfficeRows, releases_of, budgets_of, discounts_of, budget_in, discount_in, voucher_of, position_of}
use Rattle.file_meaning.specs.Stands.{AreRowsOf, AreOrdered, AreSameRows, MembersRise}
use Rattle.file_meaning.proofs.Order.{same_order}
use Rattle.file_meaning.proofs.Links.{links_tell}

pub order_of_parts : {T U : Type 0} (key : T → ℕ) (part : T → U) (of : U → ℕ) → ((r : T) → of (part r) ≡ key r) → (n : ℕ) (rows : List T) → InOrderFrom key n rows → InOrderFrom of n (map part rows)
order_of_parts key part of is n [] h = tt
order_of_parts key part of is n (r ∷ rows) h = (subst (λ m. n ≤ m) (sym (is r)) h.0, subst (λ m. InOrderFrom of (m + 1) (map part rows)) (sym (is r)) (order_of_parts key part of is (key r + 1) rows h.1))

-- rows of which each part tells its row
pub map_back : {T U : Type 0} (part : T → U) (whole : U → T) → ((r : T) → whole (part r) ≡ r) → (rows : List T) → map whole (map part rows) ≡ rows
map_back part whole back [] = refl
map_back part whole back (r ∷ rows) = ap₂ ◌∷◌ (back r) (map_back part whole back rows)

-- rows whose parts are the same have the same ids
ids_of_parts : {T U : Type 0} (key : T → ℕ) (part : T → U) (of : U → ℕ) → ((r : T) → of (part r) ≡ key r) → (xs ys : List T) → map part xs ≡ map part ys → map key xs ≡ map key ys
ids_of_parts key part of is xs ys e = sym (keys xs) ∙ ap (map of) e ∙ keys ys
  where
    keys : (rows : List _) → map of (map part rows) ≡ map key rows
    keys [] = refl
    keys (r ∷ rows) = ap₂ ◌∷◌ (is r) (keys rows)

-- rows that their heads and their links tell
same_wholes : {T H : Type 0} (head : T → H) (members : T → List ℕ) (whole : List ℕ → H → T) → ((r : T) → whole (members r) (head r) ≡ r) → (xs ys : List T) → map head xs ≡ map head ys → map members xs ≡ map members ys → xs ≡ ys
same_wholes head members whole back [] [] e f = refl
same_wholes head members whole back [] (y ∷ ys) e f = absurd cc
same_wholes head members whole back (x ∷ xs) [] e f = absurd cc
same_wholes head members whole back (x ∷ xs) (y ∷ ys) e f =
    let first : head x ≡ head y = cc in
    let links : members x ≡ members y = cc in
    let rest = same_wholes head members whole back xs ys (let e : map head xs ≡ map head ys = cc in e) (let e : map members xs ≡ map members ys = cc in e) in
    ap₂ ◌∷◌ (sym (back x) ∙ ap₂ whole links first ∙ back y) rest

-- a voucher by its head and the link of its budget
budget_told : (o : Option ℕ) → budget_in (option_to_list o) ≡ o
budget_told None = refl
budget_told (Some n) = refl

pub voucher_back : (v : Voucher) → voucher_of (budget_in (budgets_of v)) (head_of_voucher v) ≡ v
voucher_back v = ap (λ o. voucher_of o (head_of_voucher v)) (budget_told v.budget)

budget_rises : (o : Option ℕ) → AreInOrder (λ n. n) (option_to_list o)
budget_rises None = tt
budget_rises (Some n) = (omega arith, tt)

pub budgets_rise : (vouchers : List Voucher) → AllByRecursion (λ v. AreInOrder (λ n. n) (budgets_of v)) vouchers
budgets_rise [] = tt
budgets_rise (v ∷ vouchers) = (budget_rises v.budget, budgets_rise vouchers)

-- an order position by its head and the link of its discount
discount_told : (n : ℕ) (b : Bool) → (n == 0) ≡ b → discount_in (cond b [] (n ∷ [])) ≡ n
discount_told n true e = sym (eqb-true n 0 e)
discount_told n false e = refl

pub position_back : (p : OrderPos) → position_of (discount_in (discounts_of p)) (head_of_position p) ≡ p
position_back p = ap (λ n. position_of n (head_of_position p)) (discount_told p.discount (p.discount == 0) refl)

discount_rises : (n : ℕ) (b : Bool) → AreInOrder (λ n. n) (cond b [] (n ∷ []))
discount_rises n true = tt
discount_rises n false = (omega arith, tt)

pub discounts_rise : (positions : List OrderPos) → AllByRecursion (λ p. AreInOrder (λ n. n) (discounts_of p)) positions
discounts_rise [] = tt
discounts_rise (p ∷ positions) = (discount_rises p.discount (p.discount == 0), discounts_rise positions)

quota_ids : (xs ys : List Quota) → map head_of_quota xs ≡ map head_of_quota ys → map (λ (q : Quota). q.id) xs ≡ map (λ (q : Quota). q.id) ys
quota_ids [] [] e = refl
quota_ids [] (y ∷ ys) e = absurd cc
quota_ids (x ∷ xs) [] e = absurd cc
quota_ids (x ∷ xs) (y ∷ ys) e =
    let first : head_of_quota x ≡ head_of_quota y = cc in
    let rest : map head_of_quota xs ≡ map head_of_quota ys = cc in
    ap₂ ◌∷◌ (ap (λ (h : QuotaRow). h.id) first) (quota_ids xs ys rest)

-- the quota's link to itself tells whether it releases places
abbrev is_any : List ℕ → Bool
is_any [] = false
is_any (n ∷ ns) = true

release_told : (b : Bool) (id : ℕ) → is_any (cond b (id ∷ []) []) ≡ b
release_told true id = refl
release_told false id = refl

same_release : (x y : Quota) → releases_of x ≡ releases_of y → x.release_after_exit ≡ y.release_after_exit
same_release x y e = sym (release_told x.release_after_exit x.id) ∙ ap is_any e ∙ release_told y.release_after_exit y.id

release_rises : (b : Bool) (id : ℕ) → AreInOrder (λ n. n) (cond b (id ∷ []) [])
release_rises true id = (omega arith, tt)
release_rises false id = tt

releases_rise : (quotas : List Quota) → AllByRecursion (λ q. AreInOrder (λ n. n) (releases_of q)) quotas
releases_rise [] = tt
releases_rise (q ∷ quotas) = (release_rises q.release_after_exit q.id, releases_rise quotas)

same_quotas : (xs ys : List Quota) → map head_of_quota xs ≡ map head_of_quota ys → map (λ (q : Quota). q.items) xs ≡ map (λ (q : Quota). q.items) ys → map (λ (q : Quota). q.variations) xs ≡ map (λ (q : Quota). q.variations) ys → map releases_of xs ≡ map releases_of ys → xs ≡ ys
same_quotas [] [] e f g r = refl
same_quotas [] (y ∷ ys) e f g r = absurd cc
same_quotas (x ∷ xs) [] e f g r = absurd cc
same_quotas (x ∷ xs) (y ∷ ys) e f g r =
    let first : head_of_quota x ≡ head_of_quota y = cc in
    let items : x.items ≡ y.items = cc in
    let variations : x.variations ≡ y.variations = cc in
    let rest = same_quotas xs ys (let e : map head_of_quota xs ≡ map head_of_quota ys = cc in e) (let e : map (λ (q : Quota). q.items) xs ≡ map (λ (q : Quota). q.items) ys = cc in e) (let e : map (λ (q : Quota). q.variations) xs ≡ map (λ (q : Quota). q.variations) ys = cc in e) (let e : map releases_of xs ≡ map releases_of ys = cc in e) in
    let release : x.release_after_exit ≡ y.release_after_exit = same_release x y (let e : releases_of x ≡ releases_of y = cc in e) in
    let is : x ≡ y = λ i. record { id = (first i).id; name = (first i).name; release_after_exit = release i; size = (first i).size; items = items i; variations = variations i } in
    ap₂ ◌∷◌ is rest

list_ids : (xs ys : List CheckinList) → map head_of_list xs ≡ map head_of_list ys → map (λ (l : CheckinList). l.id) xs ≡ map (λ (l : CheckinList). l.id) ys
list_ids [] [] e = refl
list_ids [] (y ∷ ys) e = absurd cc
list_ids (x ∷ xs) [] e = absurd cc
list_ids (x ∷ xs) (y ∷ ys) e =
    let first : head_of_list x ≡ head_of_list y = cc in
    let rest : map head_of_list xs ≡ map head_of_list ys = cc in
    ap₂ ◌∷◌ (ap (λ (h : ListRow). h.id) first) (list_ids xs ys rest)

same_lists : (xs ys : List CheckinList) → map head_of_list xs ≡ map head_of_list ys → map (λ (l : CheckinList). l.limit_products) xs ≡ map (λ (l : CheckinList). l.limit_products) ys → xs ≡ ys
same_lists [] [] e f = refl
same_lists [] (y ∷ ys) e f = absurd cc
same_lists (x ∷ xs) [] e f = absurd cc
same_lists (x ∷ xs) (y ∷ ys) e f =
    let first : head_of_list x ≡ head_of_list y = cc in
    let items : x.limit_products ≡ y.limit_products = cc in
    let rest = same_lists xs ys (let e : map head_of_list xs ≡ map head_of_list ys = cc in e) (let e : map (λ (l : CheckinList). l.limit_products) xs ≡ map (λ (l : CheckinList). l.limit_products) ys = cc in e) in
    let is : x ≡ y = λ i. record {
      id = (first i).id;
      name = (first i).name;
      all_products = (first i).all_products;
      limit_products = items i;
      include_pending = (first i).include_pending;
      allow_multiple_entries = (first i).allow_multiple_entries;
      allow_entry_after_exit = (first i).allow_entry_after_exit;
    } in
    ap₂ ◌∷◌ is rest

pub all_map : {A : Type 0} (P Q : A → Type 0) → ((a : A) → P a → Q a) → (xs : List A) → AllByRecursion P xs → AllByRecursion Q xs
all_map P Q f [] h = tt
all_map P Q f (x ∷ xs) h = (f x h.0, all_map P Q f xs h.1)

-- both are these rows in some order
joined : {T : Type 0} (xs ys a b : List T) → IsPermutation xs a → IsPermutation ys b → IsPermutation xs ys → IsPermutation a b
joined xs ys a b h k same = IsPermutation-trans a xs b (IsPermutation-sym xs a h) (IsPermutation-trans xs ys b same k)

-- rows in order, by their heads and their links, in whatever order these are
told_whole : {T H : Type 0} (key : T → ℕ) (head : T → H) (of : H → ℕ) → ((r : T) → of (head r) ≡ key r) → (members : T → List ℕ) (whole : List ℕ → H → T) → ((r : T) → whole (members r) (head r) ≡ r) → (xs ys : List T) → AreInOrder key xs → AreInOrder key ys
    → AllByRecursion (λ r. AreInOrder (λ n. n) (members r)) xs → AllByRecursion (λ r. AreInOrder (λ n. n) (members r)) ys
    → IsPermutation (map head xs) (map head ys) → IsPermutation (all_links key members xs) (all_links key members ys) → xs ≡ ys
told_whole key head of is members whole back xs ys h k rises more heads links =
    let same = same_order of (map head xs) (map head ys) (order_of_parts key head of is 0 xs h) (order_of_parts key head of is 0 ys k) heads in
    same_wholes head members whole back xs ys same (links_tell key members xs ys (ids_of_parts key head of is xs ys same) h k rises more links)

pub tell_one : (a b : Lists) (xs ys : OfficeRows) → AreOrdered a → AreOrdered b → AreRowsOf a xs → AreRowsOf b ys → AreSameRows xs ys → a ≡ b
tell_one a b xs ys o p h k same =
    let items = same_order (λ r. r.id) a.catalogue.items b.catalogue.items o.ids.items p.ids.items (joined xs.items ys.items _ _ h.items k.items same.items) in
    let variations = same_order (λ r. r.id) a.catalogue.variations b.catalogue.variations o.ids.variations p.ids.variations (joined xs.variations ys.variations _ _ h.variations k.variations same.variations) in
    let heads : map head_of_quota a.catalogue.quotas ≡ map head_of_quota b.catalogue.quotas =
    same_order (λ (h : QuotaRow). h.id) (map head_of_quota a.catalogue.quotas) (map head_of_quota b.catalogue.quotas) (order_of_parts (λ r. r.id) head_of_quota (λ h. h.id) (λ r. refl) 0 a.catalogue.quotas o.ids.quotas)
    (order_of_parts (λ r. r.id) head_of_quota (λ h. h.id) (λ r. refl) 0 b.catalogue.quotas p.ids.quotas) (joined xs.quotas ys.quotas _ _ h.quotas k.quotas same.quotas) in
    let ids = quota_ids a.catalogue.quotas b.catalogue.quotas heads in
    let quotas = same_quotas a.catalogue.quotas b.catalogue.quotas heads
    (links_tell (λ q. q.id) (λ q. q.items) a.catalogue.quotas b.catalogue.quotas ids o.ids.quotas p.ids.quotas (all_map MembersRise (λ q. AreInOrder (λ n. n) q.items) (λ q r. r.items) a.catalogue.quotas o.members)
    (all_map MembersRise (λ q. AreInOrder (λ n. n) q.items) (λ q r. r.items) b.catalogue.quotas p.members) (joined xs.quota_items ys.quota_items _ _ h.quota_items k.quota_items same.quota_items))
    (links_tell (λ q. q.id) (λ q. q.variations) a.catalogue.quotas b.catalogue.quotas ids o.ids.quotas p.ids.quotas (all_map MembersRise (λ q. AreInOrder (λ n. n) q.variations) (λ q r. r.variations) a.catalogue.quotas o.members)
    (all_map MembersRise (λ q. AreInOrder (λ n. n) q.variations) (λ q r. r.variations) b.catalogue.quotas p.members) (joined xs.quota_variations ys.quota_variations _ _ h.quota_variations k.quota_variations same.quota_variations))
    (links_tell (λ q. q.id) releases_of a.catalogue.quotas b.catalogue.quotas ids o.ids.quotas p.ids.quotas (releases_rise a.catalogue.quotas) (releases_rise b.catalogue.quotas)
    (joined xs.quota_release ys.quota_release _ _ h.quota_release k.quota_release same.quota_release)) in
    let vouchers = told_whole (λ v. v.id) head_of_voucher (λ h. h.id) (λ v. refl) budgets_of (λ ms h. voucher_of (budget_in ms) h) voucher_back a.vouchers b.vouchers o.ids.vouchers p.ids.vouchers (budgets_rise a.vouchers) (budgets_rise b.vouchers)
    (joined xs.vouchers ys.vouchers _ _ h.vouchers k.vouchers same.vouchers) (joined xs.voucher_budget ys.voucher_budget _ _ h.voucher_budget k.voucher_budget same.voucher_budget) in
    let carts = same_order (λ r. r.id) a.carts b.carts o.ids.carts p.ids.carts (joined xs.carts ys.carts _ _ h.carts k.carts same.carts) in
    let orders = same_order (λ r. r.id) a.orders b.orders o.ids.orders p.ids.orders (joined xs.orders ys.orders _ _ h.orders k.orders same.orders) in
    let positions = told_whole (λ p. p.id) head_of_position (λ h. h.id) (λ p. refl) discounts_of (λ ms h. position_of (discount_in ms) h) position_back a.positions b.positions o.ids.positions p.ids.positions (discounts_rise a.positions) (discounts_rise b.positions)
    (joined xs.positions ys.positions _ _ h.positions k.positions same.positions) (joined xs.position_discount ys.position_discount _ _ h.position_discount k.position_discount same.position_discount) in
    let waiting = same_order (λ r. r.id) a.waiting b.waiting o.ids.waiting p.ids.waiting (joined xs.waiting ys.waiting _ _ h.waiting k.waiting same.waiting) in
    let tops : map head_of_list a.checkin_lists ≡ map head_of_list b.checkin_lists =
    same_order (λ (h : ListRow). h.id) (map head_of_list a.checkin_lists) (map head_of_list b.checkin_lists) (order_of_parts (λ r. r.id) head_of_list (λ h. h.id) (λ r. refl) 0 a.checkin_lists o.ids.checkin_lists)
    (order_of_parts (λ r. r.id) head_of_list (λ h. h.id) (λ r. refl) 0 b.checkin_lists p.ids.checkin_lists) (joined xs.checkin_lists ys.checkin_lists _ _ h.checkin_lists k.checkin_lists same.checkin_lists) in
    let checkin_lists = same_lists a.checkin_lists b.checkin_lists tops
    (links_tell (λ l. l.id) (λ l. l.limit_products) a.checkin_lists b.checkin_lists (list_ids a.checkin_lists b.checkin_lists tops) o.ids.checkin_lists p.ids.checkin_lists o.limits p.limits
    (joined xs.list_items ys.list_items _ _ h.list_items k.list_items same.list_items)) in
    let checkins = same_order (λ r. r.id) a.checkins b.checkins o.ids.checkins p.ids.checkins (joined xs.checkins ys.checkins _ _ h.checkins k.checkins same.checkins) in
    λ i. record {
      catalogue = record { items = items i; variations = variations i; quotas = quotas i };
      vouchers = vouchers i;
      carts = carts i;
      orders = orders i;
      positions = positions i;
      waiting = waiting i;
      checkin_lists = checkin_lists i;
      checkins = checkins i;
    }
