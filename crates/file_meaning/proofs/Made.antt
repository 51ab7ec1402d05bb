-- What the statements make of the tables is what the change makes of the office's rows.
use Rattle.std.proofs.Common.{◌≡◌, ℕ, ◌+◌, ◌==◌, ◌<◌, Bool, true, false, cond, not, ◌||◌, List, [], ◌∷◌, ◌++◌, length, map, filter, refl, sym, ap, ap₂, subst, ◌∙◌, arith}
use Rattle.std.specs.List.{list_any, AllByRecursion}
use Rattle.std.specs.List.Sorted.{IsPermutation}
use Rattle.std.proofs.lemmas.Bool.Decides.{nat_tests}
use Rattle.std.proofs.lemmas.List.Sorted.{IsPermutation-refl, IsPermutation-trans, IsPermutation-map, IsPermutation-middle, IsPermutation-append_left, IsPermutation-filter_both}
use Rattle.sqlite_trees.proofs.ListLemmas.{filter-map, IsPermutation-same}
use Rattle.model_catalogue.specs.declared.rows.Quota.{Quota}
use Rattle.model_rows.specs.declared.rows.OrderPos.{OrderPos}
use Rattle.model_rows.specs.declared.changes.Change.{Change}
use Rattle.model_rows.specs.declared.changes.Change.TheVariants.{PutItem, PutVariation, PutQuota, PutVoucher, PutCart, PutOrder, PutPosition, PutWaiting, DropVoucher, DropCart, DropWaiting, PutCheckinList, PutCheckin}
use Rattle.file_rows.specs.declared.rows.QuotaItem.{QuotaItem}
use Rattle.file_rows.specs.declared.rows.QuotaVariation.{QuotaVariation}
use Rattle.file_rows.specs.declared.rows.ListItem.{ListItem}
use Rattle.file_rows.specs.declared.rows.BudgetRow.{BudgetRow}
use Rattle.file_rows.specs.declared.rows.DiscountRow.{DiscountRow}
use Rattle.file_rows.specs.declared.rows.ReleaseRow.{ReleaseRow}
use Rattle.file_rows.specs.declared.rows.VoucherRow.{VoucherRow}
use Rattle.file_rows.specs.Changes.{head_of_voucher}
use Rattle.file_rows.specs.Tables.{Tables}
use Rattle.file_meaning.specs.Free.{AreApart, AreBelow, IsFree}
use Rattle.file_meaning.specs.Links.{Link, links_but, are_just}
use Rattle.file_meaning.specs.Made.{made_by, next_by, changes_made, next_after, links_numbered, put_links, has_position}
use Rattle.file_meaning.specs.Rows.{Redeemed, rows_of, redeemed_in, budgets_of, discounts_of}
use Rattle.file_meaning.specs.RowsAfter.{rows_after, redeemed_of}
use Rattle.file_meaning.specs.Turned.{IsTurned, AreTurned}
use Rattle.file_meaning.proofs.EachRow.{set_quota_items, set_quota_variations, set_quota_release, set_list_items, set_vouchers, set_voucher_budget, set_position_discount}
use Rattle.file_meaning.proofs.Follow.{same_rows}
use Rattle.file_meaning.proofs.Just.{just_same}

-- ---- row numbers

neither : (a b : Bool) → (a || b) ≡ false → (a ≡ false) × (b ≡ false)
neither true b e = absurd cc
neither false b e = (refl, e)

nor : (a b : Bool) → a ≡ false → b ≡ false → (a || b) ≡ false
nor a b e f = rw (e, f)

none_named : (n from : ℕ) (ns : List ℕ) → from < n + 1 → AllByRecursion (λ m. m < from) ns → list_any (λ m. n == m) ns ≡ false
none_named n from [] le h = refl
none_named n from (m ∷ ns) le h = nor (n == m) (list_any (λ m. n == m) ns) (grind (arith, nat_tests, h.0, le)) (none_named n from ns le h.1)

below_more : (n m : ℕ) (ns : List ℕ) → n < m + 1 → AllByRecursion (λ k. k < n) ns → AllByRecursion (λ k. k < m) ns
below_more n m [] le h = tt
below_more n m (k ∷ ns) le h = (omega (arith, h.0, le), below_more n m ns le h.1)

pub below_later : (n m : ℕ) (ns : List ℕ) → n < m + 1 → AreBelow n ns → AreBelow m ns
below_later n m ns le h = record { apart = h.apart; below = below_more n m ns le h.below }

pub below_new : (n : ℕ) (ns : List ℕ) → AreBelow n ns → AreBelow (n + 1) (n ∷ ns)
below_new n ns h = record { apart = (none_named n n ns (omega arith) h.below, h.apart); below = (omega arith, below_more n (n + 1) ns (omega arith) h.below) }

none_of_some : {A : Type 0} (key : A → ℕ) (n : ℕ) (p : A → Bool) (xs : List A) → list_any (λ m. n == m) (map key xs) ≡ false → list_any (λ m. n == m) (map key (filter p xs)) ≡ false
none_of_some key n p [] e = refl
none_of_some {A} key n p (x ∷ xs) e =
    let parts = neither (n == key x) (list_any (λ m. n == m) (map key xs)) e in
    elim (p x) as (λ b. list_any (λ m. n == m) (map key (cond b (x ∷ filter p xs) (filter p xs))) ≡ false) [
      | true ↦ nor (n == key x) (list_any (λ m. n == m) (map key (filter p xs))) parts.0 (none_of_some key n p xs parts.1)
      | false ↦ none_of_some key n p xs parts.1
    ]

apart_some : {A : Type 0} (key : A → ℕ) (p : A → Bool) (xs : List A) → AreApart (map key xs) → AreApart (map key (filter p xs))
apart_some key p [] h = tt
apart_some key p (x ∷ xs) h = elim (p x) as (λ b. AreApart (map key (cond b (x ∷ filter p xs) (filter p xs)))) [
  | true ↦ (none_of_some key (key x) p xs h.0, apart_some key p xs h.1)
  | false ↦ apart_some key p xs h.1
]

below_some : {A : Type 0} (key : A → ℕ) (n : ℕ) (p : A → Bool) (xs : List A) → AllByRecursion (λ k. k < n) (map key xs) → AllByRecursion (λ k. k < n) (map key (filter p xs))
below_some key n p [] h = tt
below_some key n p (x ∷ xs) h = elim (p x) as (λ b. AllByRecursion (λ k. k < n) (map key (cond b (x ∷ filter p xs) (filter p xs)))) [
  | true ↦ (h.0, below_some key n p xs h.1)
  | false ↦ below_some key n p xs h.1
]

pub below_fewer : {A : Type 0} (key : A → ℕ) (n : ℕ) (p : A → Bool) (xs : List A) → AreBelow n (map key xs) → AreBelow n (map key (filter p xs))
below_fewer key n p xs h = record { apart = apart_some key p xs h.apart; below = below_some key n p xs h.below }

pub free_later : (n m : ℕ) (t : Tables) → n < m + 1 → IsFree n t → IsFree m t
free_later n m t le h = record {
  quota_items = below_later n m _ le h.quota_items;
  quota_variations = below_later n m _ le h.quota_variations;
  list_items = below_later n m _ le h.list_items;
  kept = below_later n m _ le h.kept;
}

-- ---- links, one after another

abbrev link_to : ℕ → ℕ → Link
link_to owner id = record { owner = owner; member = id }

abbrev of_owner : ℕ → List ℕ → List Link
of_owner owner ids = map (link_to owner) ids

same_number : (a b : ℕ) → (a == b) ≡ true → a ≡ b
same_number a b e = grind (arith, nat_tests)

module _ {R : Type 0} (row : ℕ → ℕ → R) (rowid : R → ℕ) (link : R → Link) (owner : ℕ) (named : (n id : ℕ) → rowid (row n id) ≡ n) (owned : (n id : ℕ) → link (row n id) ≡ record { owner = owner; member = id }) where
  linked : (from : ℕ) (ids : List ℕ) (rows : List R) → IsPermutation (map link (links_numbered row from ids rows)) (of_owner owner ids ++ map link rows)
  linked from [] rows = IsPermutation-refl _
  linked from (id ∷ ids) rows =
      IsPermutation-trans _ _ _ (linked (from + 1) ids (row from id ∷ rows))
      (subst (λ l. IsPermutation (of_owner owner ids ++ l ∷ map link rows) (record { owner = owner; member = id } ∷ (of_owner owner ids ++ map link rows))) (sym (owned from id))
      (IsPermutation-middle (of_owner owner ids) (record { owner = owner; member = id }) (map link rows)))

  below_all : (from : ℕ) (ids : List ℕ) (rows : List R) → AreBelow from (map rowid rows) → AreBelow (from + length ids) (map rowid (links_numbered row from ids rows))
  below_all from [] rows h = subst (λ n. AreBelow n (map rowid rows)) (let e : from ≡ from + 0 = omega arith in e) h
  below_all from (id ∷ ids) rows h =
      subst (λ n. AreBelow n (map rowid (links_numbered row (from + 1) ids (row from id ∷ rows)))) (let e : from + 1 + length ids ≡ from + length (id ∷ ids) = omega arith in e)
      (below_all (from + 1) ids (row from id ∷ rows) (subst (λ n. AreBelow (from + 1) (n ∷ map rowid rows)) (sym (named from id)) (below_new from (map rowid rows) h)))

  -- the links of an owner in the place of those that it had
  relinked : (from : ℕ) (ids : List ℕ) (p : R → Bool) (rows : List R) → map link (filter p rows) ≡ links_but owner (map link rows) → IsPermutation (map link (links_numbered row from ids (filter p rows))) (of_owner owner ids ++ links_but owner (map link rows))
  relinked from ids p rows is = subst (λ l. IsPermutation (map link (links_numbered row from ids (filter p rows))) (of_owner owner ids ++ l)) is (linked from ids (filter p rows))

-- links that stay where they are just an owner's members, and else are its members anew
module _ {R : Type 0} (owner_of member_of rowid : R → ℕ) (row : ℕ → ℕ → R) (owner : ℕ) (named : (n id : ℕ) → rowid (row n id) ≡ n) (owned : (n id : ℕ) → link_to (owner_of (row n id)) (member_of (row n id)) ≡ link_to owner id) where
  abbrev link : R → Link
  link r = link_to (owner_of r) (member_of r)

  abbrev own : List R → List R
  own rows = filter (λ r. owner_of r == owner) rows

  abbrev others : List R → List R
  others rows = filter (λ r. not (owner_of r == owner)) rows

  own_links : (rows : List R) → map link (own rows) ≡ of_owner owner (map member_of (own rows))
  own_links [] = refl
  own_links (r ∷ rows) =
      elim (owner_of r == owner) as (λ b. (owner_of r == owner) ≡ b → map link (cond b (r ∷ own rows) (own rows)) ≡ of_owner owner (map member_of (cond b (r ∷ own rows) (own rows)))) [
        | true ↦ λ e. let is = same_number (owner_of r) owner e in ap₂ (λ (l : Link) ls. l ∷ ls) (ap (λ n. link_to n (member_of r)) is) (own_links rows)
        | false ↦ λ e. own_links rows
      ] refl

  links_stay : (ids : List ℕ) (rows : List R) → are_just ids (map member_of (own rows)) ≡ true → IsPermutation (map link rows) (of_owner owner ids ++ links_but owner (map link rows))
  links_stay ids rows just =
      let left = links_but owner (map link rows) in
      let both : IsPermutation (map link rows) (filter (λ (l : Link). l.owner == owner) (map link rows) ++ left) =
      IsPermutation-filter_both (λ (l : Link). l.owner == owner) (λ (l : Link). not (l.owner == owner)) (λ l. refl) (map link rows) in
      let first : filter (λ (l : Link). l.owner == owner) (map link rows) ≡ of_owner owner (map member_of (own rows)) = filter-map (λ (l : Link). l.owner == owner) link rows ∙ own_links rows in
      let same : IsPermutation (of_owner owner (map member_of (own rows))) (of_owner owner ids) = IsPermutation-map (link_to owner) (map member_of (own rows)) ids (just_same ids (map member_of (own rows)) just) in
      IsPermutation-trans _ _ _ (subst (λ l. IsPermutation (map link rows) (l ++ left)) first both) (IsPermutation-append_left left (of_owner owner (map member_of (own rows))) (of_owner owner ids) same)

  told_either : (from : ℕ) (ids : List ℕ) (rows : List R) (just : Bool) → are_just ids (map member_of (own rows)) ≡ just
      → IsPermutation (map link (cond just rows (links_numbered row from ids (others rows)))) (of_owner owner ids ++ links_but owner (map link rows))
  told_either from ids rows true is = links_stay ids rows is
  told_either from ids rows false is = relinked row rowid link owner named owned from ids (λ r. not (owner_of r == owner)) rows (sym (filter-map (λ (l : Link). not (l.owner == owner)) link rows))

  told : (from : ℕ) (ids : List ℕ) (rows : List R) → IsPermutation (map link (put_links owner_of member_of row owner from ids rows)) (of_owner owner ids ++ links_but owner (map link rows))
  told from ids rows = told_either from ids rows (are_just ids (map member_of (own rows))) refl

  below_either : (from : ℕ) (ids : List ℕ) (rows : List R) (just : Bool) → AreBelow from (map rowid rows) → AreBelow (from + length ids) (map rowid (cond just rows (links_numbered row from ids (others rows))))
  below_either from ids rows true h = below_later from (from + length ids) (map rowid rows) (omega arith) h
  below_either from ids rows false h = below_all row rowid link owner named owned from ids (others rows) (below_fewer rowid from (λ r. not (owner_of r == owner)) rows h)

  put_below : (from : ℕ) (ids : List ℕ) (rows : List R) → AreBelow from (map rowid rows) → AreBelow (from + length ids) (map rowid (put_links owner_of member_of row owner from ids rows))
  put_below from ids rows h = below_either from ids rows (are_just ids (map member_of (own rows))) h

-- ---- a quota that releases places

-- its row is its link, before those of other quotas
released : (w : Quota) (rows : List ReleaseRow) (b : Bool)
    → map (λ (r : ReleaseRow). link_to r.quota r.quota) (map (λ id. record { quota = id }) (cond b (w.id ∷ []) []) ++ filter (λ r. not (r.quota == w.id)) rows)
    ≡ of_owner w.id (cond b (w.id ∷ []) []) ++ links_but w.id (map (λ (r : ReleaseRow). link_to r.quota r.quota) rows)
released w rows true = ap (λ l. link_to w.id w.id ∷ l) (sym (filter-map (λ (l : Link). not (l.owner == w.id)) (λ (r : ReleaseRow). link_to r.quota r.quota) rows))
released w rows false = sym (filter-map (λ (l : Link). not (l.owner == w.id)) (λ (r : ReleaseRow). link_to r.quota r.quota) rows)

-- ---- links with a value

module _ {R : Type 0} (owner_of value_of : R → ℕ) (row : ℕ → R) (owner : ℕ) (is : (n : ℕ) → link_to (owner_of (row n)) (value_of (row n)) ≡ link_to owner n) where
  abbrev valued : R → Link
  valued r = link_to (owner_of r) (value_of r)

  -- new rows stand before others
  beside : (ns : List ℕ) (rows : List R) → map valued (map row ns ++ rows) ≡ of_owner owner ns ++ map valued rows
  beside [] rows = refl
  beside (n ∷ ns) rows = ap₂ (λ (l : Link) ls. l ∷ ls) (is n) (beside ns rows)

  -- and before those of other owners
  replaced : (ns : List ℕ) (rows : List R) → map valued (map row ns ++ filter (λ r. not (owner_of r == owner)) rows) ≡ of_owner owner ns ++ links_but owner (map valued rows)
  replaced ns rows = beside ns (filter (λ r. not (owner_of r == owner)) rows) ∙ ap (λ l. of_owner owner ns ++ l) (sym (filter-map (λ (l : Link). not (l.owner == owner)) valued rows))

-- the row of a position's discount, whether one of its id stood or not
discounted : (w : OrderPos) (rows : List DiscountRow) (stands : Bool)
    → map (λ (r : DiscountRow). link_to r.position_id r.discount) (map (λ n. record { position_id = w.id; discount = n }) (discounts_of w) ++ cond stands (filter (λ r. not (r.position_id == w.id)) rows) rows)
    ≡ of_owner w.id (discounts_of w) ++ cond stands (links_but w.id (map (λ (r : DiscountRow). link_to r.position_id r.discount) rows)) (map (λ (r : DiscountRow). link_to r.position_id r.discount) rows)
discounted w rows true = replaced (λ (r : DiscountRow). r.position_id) (λ (r : DiscountRow). r.discount) (λ n. record { position_id = w.id; discount = n }) w.id (λ n. refl) (discounts_of w) rows
discounted w rows false = beside (λ (r : DiscountRow). r.position_id) (λ (r : DiscountRow). r.discount) (λ n. record { position_id = w.id; discount = n }) w.id (λ n. refl) (discounts_of w) rows

-- ---- one change

pub one_turned : (change : Change) (from : ℕ) (t : Tables) → IsFree from t → IsTurned change (next_by change from) t (made_by change from t)
one_turned (PutItem w) from t h = record { rows = same_rows (rows_after (PutItem w) (rows_of t)); redeemed = IsPermutation-refl _; spents = refl; shop = refl; counts = refl; exits = refl; tokens = refl; kept = refl; free = record { quota_items = h.quota_items; quota_variations = h.quota_variations; list_items = h.list_items; kept = h.kept } }
one_turned (PutVariation w) from t h = record { rows = same_rows (rows_after (PutVariation w) (rows_of t)); redeemed = IsPermutation-refl _; spents = refl; shop = refl; counts = refl; exits = refl; tokens = refl; kept = refl; free = record { quota_items = h.quota_items; quota_variations = h.quota_variations; list_items = h.list_items; kept = h.kept } }
one_turned (PutQuota w) from t h =
    let item : ℕ → ℕ → QuotaItem = λ n id. record { rowid = n; quota = w.id; item = id } in
    let variation : ℕ → ℕ → QuotaVariation = λ n id. record { rowid = n; quota = w.id; variation = id } in
    let mid = from + length w.items in
    record {
      rows =
          set_quota_release
          (set_quota_variations
          (set_quota_items (same_rows (rows_after (PutQuota w) (rows_of t)))
          (told (λ (r : QuotaItem). r.quota) (λ (r : QuotaItem). r.item) (λ (r : QuotaItem). r.rowid) item w.id (λ n id. refl) (λ n id. refl) from w.items t.quota_items))
          (told (λ (r : QuotaVariation). r.quota) (λ (r : QuotaVariation). r.variation) (λ (r : QuotaVariation). r.rowid) variation w.id (λ n id. refl) (λ n id. refl) mid w.variations t.quota_variations))
          (IsPermutation-same _ _ (released w t.releases w.release_after_exit));
      redeemed = IsPermutation-refl _;
      spents = refl;
      shop = refl;
      counts = refl;
      exits = refl;
      tokens = refl;
      kept = refl;
      free = record {
        quota_items = below_later mid (mid + length w.variations) _ (omega arith)
            (put_below (λ (r : QuotaItem). r.quota) (λ (r : QuotaItem). r.item) (λ (r : QuotaItem). r.rowid) item w.id (λ n id. refl) (λ n id. refl) from w.items t.quota_items h.quota_items);
        quota_variations =
            put_below (λ (r : QuotaVariation). r.quota) (λ (r : QuotaVariation). r.variation) (λ (r : QuotaVariation). r.rowid) variation w.id (λ n id. refl) (λ n id. refl) mid w.variations t.quota_variations
            (below_later from mid _ (omega arith) h.quota_variations);
        list_items = below_later from (mid + length w.variations) _ (omega arith) h.list_items;
        kept = below_later from (mid + length w.variations) _ (omega arith) h.kept;
      };
    }
one_turned (PutVoucher w) from t h = record {
  rows =
      set_voucher_budget
      (set_vouchers (same_rows (rows_after (PutVoucher w) (rows_of t))) (IsPermutation-same _ _ (ap (λ l. head_of_voucher w ∷ l) (sym (filter-map (λ v. not (v.id == w.id)) (λ (r : VoucherRow). r.voucher) t.vouchers)))))
      (IsPermutation-same _ _ (replaced (λ (r : BudgetRow). r.voucher_id) (λ (r : BudgetRow). r.budget) (λ n. record { voucher_id = w.id; budget = n }) w.id (λ n. refl) (budgets_of w) t.budgets));
  redeemed = IsPermutation-same _ _
      (ap (λ (l : List Redeemed). record { voucher = w.id; redeemed = redeemed_of w.id (redeemed_in t) } ∷ l) (sym (filter-map (λ (c : Redeemed). not (c.voucher == w.id)) (λ (r : VoucherRow). record { voucher = r.voucher.id; redeemed = r.redeemed }) t.vouchers)));
  spents = refl;
  shop = refl;
  counts = refl;
  exits = refl;
  tokens = refl;
  kept = refl;
  free = record { quota_items = h.quota_items; quota_variations = h.quota_variations; list_items = h.list_items; kept = h.kept };
}
one_turned (PutCart w) from t h = record { rows = same_rows (rows_after (PutCart w) (rows_of t)); redeemed = IsPermutation-refl _; spents = refl; shop = refl; counts = refl; exits = refl; tokens = refl; kept = refl; free = record { quota_items = h.quota_items; quota_variations = h.quota_variations; list_items = h.list_items; kept = h.kept } }
one_turned (PutOrder w) from t h = record { rows = same_rows (rows_after (PutOrder w) (rows_of t)); redeemed = IsPermutation-refl _; spents = refl; shop = refl; counts = refl; exits = refl; tokens = refl; kept = refl; free = record { quota_items = h.quota_items; quota_variations = h.quota_variations; list_items = h.list_items; kept = h.kept } }
one_turned (PutPosition w) from t h = record {
  rows = set_position_discount (same_rows (rows_after (PutPosition w) (rows_of t))) (IsPermutation-same _ _ (discounted w t.discounts (has_position w.id t)));
  redeemed = IsPermutation-refl _;
  spents = refl;
  shop = refl;
  counts = refl;
  exits = refl;
  tokens = refl;
  kept = refl;
  free = record { quota_items = h.quota_items; quota_variations = h.quota_variations; list_items = h.list_items; kept = h.kept };
}
one_turned (PutWaiting w) from t h = record { rows = same_rows (rows_after (PutWaiting w) (rows_of t)); redeemed = IsPermutation-refl _; spents = refl; shop = refl; counts = refl; exits = refl; tokens = refl; kept = refl; free = record { quota_items = h.quota_items; quota_variations = h.quota_variations; list_items = h.list_items; kept = h.kept } }
one_turned (DropVoucher id) from t h = record {
  rows =
      set_voucher_budget (set_vouchers (same_rows (rows_after (DropVoucher id) (rows_of t))) (IsPermutation-same _ _ (sym (filter-map (λ v. not (v.id == id)) (λ (r : VoucherRow). r.voucher) t.vouchers))))
      (IsPermutation-same _ _ (sym (filter-map (λ (l : Link). not (l.owner == id)) (λ (r : BudgetRow). link_to r.voucher_id r.budget) t.budgets)));
  redeemed = IsPermutation-same _ _ (sym (filter-map (λ (c : Redeemed). not (c.voucher == id)) (λ (r : VoucherRow). record { voucher = r.voucher.id; redeemed = r.redeemed }) t.vouchers));
  spents = refl;
  shop = refl;
  counts = refl;
  exits = refl;
  tokens = refl;
  kept = refl;
  free = record { quota_items = h.quota_items; quota_variations = h.quota_variations; list_items = h.list_items; kept = h.kept };
}
one_turned (DropCart id) from t h = record { rows = same_rows (rows_after (DropCart id) (rows_of t)); redeemed = IsPermutation-refl _; spents = refl; shop = refl; counts = refl; exits = refl; tokens = refl; kept = refl; free = record { quota_items = h.quota_items; quota_variations = h.quota_variations; list_items = h.list_items; kept = h.kept } }
one_turned (DropWaiting id) from t h = record { rows = same_rows (rows_after (DropWaiting id) (rows_of t)); redeemed = IsPermutation-refl _; spents = refl; shop = refl; counts = refl; exits = refl; tokens = refl; kept = refl; free = record { quota_items = h.quota_items; quota_variations = h.quota_variations; list_items = h.list_items; kept = h.kept } }
one_turned (PutCheckinList w) from t h =
    let p : ListItem → Bool = λ r. not (r.list == w.id) in
    let to = from + length w.limit_products in
    let items = below_fewer (λ (r : ListItem). r.rowid) from p t.list_items h.list_items in
    record {
      rows =
          set_list_items (same_rows (rows_after (PutCheckinList w) (rows_of t)))
          (relinked (λ n id. record { rowid = n; list = w.id; item = id }) (λ (r : ListItem). r.rowid) (λ (r : ListItem). record { owner = r.list; member = r.item }) w.id (λ n id. refl) (λ n id. refl) from w.limit_products p t.list_items
          (sym (filter-map (λ (l : Link). not (l.owner == w.id)) (λ (r : ListItem). record { owner = r.list; member = r.item }) t.list_items)));
      redeemed = IsPermutation-refl _;
      spents = refl;
      shop = refl;
      counts = refl;
      exits = refl;
      tokens = refl;
      kept = refl;
      free = record {
        quota_items = below_later from to _ (omega arith) h.quota_items;
        quota_variations = below_later from to _ (omega arith) h.quota_variations;
        list_items = below_all (λ n id. record { rowid = n; list = w.id; item = id }) (λ (r : ListItem). r.rowid) (λ (r : ListItem). record { owner = r.list; member = r.item }) w.id (λ n id. refl) (λ n id. refl) from w.limit_products (filter p t.list_items) items;
        kept = below_later from to _ (omega arith) h.kept;
      };
    }
one_turned (PutCheckin w) from t h = record { rows = same_rows (rows_after (PutCheckin w) (rows_of t)); redeemed = IsPermutation-refl _; spents = refl; shop = refl; counts = refl; exits = refl; tokens = refl; kept = refl; free = record { quota_items = h.quota_items; quota_variations = h.quota_variations; list_items = h.list_items; kept = h.kept } }

pub all_turned : (changes : List Change) (from : ℕ) (t : Tables) → IsFree from t → AreTurned changes from (next_after changes from) t (changes_made changes from t)
all_turned [] from t h = (refl, refl)
all_turned (change ∷ changes) from t h =
    let one = one_turned change from t h in
    (next_by change from, made_by change from t, one, all_turned changes (next_by change from) (made_by change from t) one.free)
