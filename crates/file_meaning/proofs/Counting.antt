-- The counters of a file after changes, once the counts that differ were written.
use Rattle.std.proofs.Common.{◌≡◌, ℕ, ◌+◌, ◌==◌, Bool, true, false, cond, not, ◌||◌, ◌&&◌, List, [], ◌∷◌, map, filter, Option, Some, None, is_some, refl, sym, ap, subst, ◌∙◌, arith, ◌⊎◌, inl, inr}
use Rattle.std.specs.List.{list_any}
use Rattle.std.proofs.lemmas.Bool.{and_parts, eqb-true}
use Rattle.base_tables.specs.Tables.{row_at, with_row, without_row, InOrderFrom, AreInOrder}
use Rattle.base_tables.proofs.Edits.{row_at-with_row, row_at-without_row}
use Rattle.model_rows.specs.declared.rows.Usage.{Usage}
use Rattle.model_rows.specs.declared.rows.Voucher.{Voucher}
use Rattle.model_rows.specs.declared.count_rows.QuotaCount.{QuotaCount}
use Rattle.model_rows.specs.declared.count_rows.VoucherCount.{VoucherCount}
use Rattle.model_rows.specs.declared.changes.Change.{Change}
use Rattle.model_rows.specs.declared.changes.Change.TheVariants.{PutItem, PutVariation, PutQuota, PutVoucher, PutCart, PutOrder, PutPosition, PutWaiting, DropVoucher, DropCart, DropWaiting, PutCheckinList, PutCheckin}
use Rattle.model_rows.specs.Change.{after_change, after_all}
use Rattle.model_rows.specs.CountRows.{quota_counts, voucher_counts, quota_count, voucher_count, same_usage, same_quota_count, same_exits, same_voucher_count, counts_after}
use Rattle.model_rows.specs.Lists.{Lists, State}
use Rattle.file_rows.specs.declared.rows.ExitRow.{ExitRow}
use Rattle.file_rows.specs.declared.rows.SpentRow.{SpentRow}
use Rattle.file_rows.specs.Changes.{head_of_exit}
use Rattle.file_meaning.specs.Counts.{with_all, AllStand, CountsKept}
use Rattle.file_meaning.specs.Rows.{Redeemed, head_of_redeemed}
use Rattle.file_meaning.specs.RowsAfter.{redeemed_of, redeemed_by}
use Rattle.file_meaning.proofs.Order.{put_stays, drop_stays, at_above}
use Rattle.sqlite.proofs.Callers.{one_permutation}
use Rattle.sqlite_trees.proofs.ListLemmas.{filter-filter, IsPermutation-filter}
use Rattle.std.specs.List.Sorted.{IsPermutation}
use Rattle.std.proofs.lemmas.List.Sorted.{IsPermutation-sym, length_permutation}
use Rattle.std.proofs.lemmas.Bool.Decides.{nat_tests}
use Rattle.file_meaning.proofs.Counts.{counts_written, part_of, row_of_parts}
use Rattle.file_meaning.proofs.Told.{order_of_parts}

-- ---- equal counts

same_voucher_tells : (a b : VoucherCount) → same_voucher_count a b ≡ true → a ≡ b
same_voucher_tells a b e =
    let parts = and_parts (a.voucher == b.voucher) _ e in
    let counts = and_parts (a.redeemed == b.redeemed) (a.spent == b.spent) parts.1 in
    let first : a.voucher ≡ b.voucher = eqb-true a.voucher b.voucher parts.0 in
    let second : a.redeemed ≡ b.redeemed = eqb-true a.redeemed b.redeemed counts.0 in
    let third : a.spent ≡ b.spent = eqb-true a.spent b.spent counts.1 in
    λ i. record { voucher = first i; redeemed = second i; spent = third i }

same_usage_tells : (a b : Usage) → same_usage a b ≡ true → a ≡ b
same_usage_tells a b e =
    let p = and_parts (a.paid == b.paid) _ e in
    let q = and_parts (a.pending == b.pending) _ p.1 in
    let r = and_parts (a.blocked == b.blocked) _ q.1 in
    let s = and_parts (a.carts == b.carts) _ r.1 in
    let t = and_parts (a.waiting == b.waiting) (a.exited == b.exited) s.1 in
    let paid : a.paid ≡ b.paid = eqb-true a.paid b.paid p.0 in
    let pending : a.pending ≡ b.pending = eqb-true a.pending b.pending q.0 in
    let blocked : a.blocked ≡ b.blocked = eqb-true a.blocked b.blocked r.0 in
    let carts : a.carts ≡ b.carts = eqb-true a.carts b.carts s.0 in
    let waiting : a.waiting ≡ b.waiting = eqb-true a.waiting b.waiting t.0 in
    let exited : a.exited ≡ b.exited = eqb-true a.exited b.exited t.1 in
    λ i. record { paid = paid i; pending = pending i; blocked = blocked i; carts = carts i; waiting = waiting i; exited = exited i }

same_quota_tells : (a b : QuotaCount) → same_quota_count a b ≡ true → a ≡ b
same_quota_tells a b e =
    let parts = and_parts (a.quota == b.quota) (same_usage a.usage b.usage) e in
    let first : a.quota ≡ b.quota = eqb-true a.quota b.quota parts.0 in
    let second = same_usage_tells a.usage b.usage parts.1 in
    λ i. record { quota = first i; usage = second i }

abbrev first_of : {T : Type 0} → List T → Option T
first_of [] = None
first_of (r ∷ rows) = Some r

-- ---- what is found among parts of rows

pub found_part : {T U : Type 0} (key : T → ℕ) (part : T → U) (of : U → ℕ) → ((r : T) → of (part r) ≡ key r) → (id : ℕ) (rows : List T) → is_some (row_at of id (map part rows)) ≡ is_some (row_at key id rows)
found_part key part of is id [] = refl
found_part key part of is id (r ∷ rows) =
    let more = found_part key part of is id rows in
    ap (λ n. is_some (cond (n == id) (Some (part r)) (row_at of id (map part rows)))) (is r)
    ∙ elim (key r == id) as (λ b. is_some (cond b (Some (part r)) (row_at of id (map part rows))) ≡ is_some (cond b (Some r) (row_at key id rows))) [
      | true ↦ refl
      | false ↦ more
    ]

pub none_of : {T : Type 0} (o : Option T) → is_some o ≡ false → o ≡ None
none_of None e = refl
none_of (Some x) e = absurd cc

some_of : {T U : Type 0} (o : Option T) (p : Option U) → is_some o ≡ is_some p → p ≡ None → o ≡ None
some_of o None e n = none_of o e
some_of o (Some x) e n = absurd cc

map_same : {T : Type 0} (rows : List T) → map (λ r. r) rows ≡ rows
map_same [] = refl
map_same (r ∷ rows) = ap (λ l. r ∷ l) (map_same rows)

-- ---- quotas: none goes

module _ (id : ℕ) where
  stays_one : (change : Change) (lists : Lists) → row_at (λ q. q.id) id (after_change change lists).catalogue.quotas ≡ None → row_at (λ q. q.id) id lists.catalogue.quotas ≡ None
  stays_one (PutItem row) lists e = e
  stays_one (PutVariation row) lists e = e
  stays_one (PutQuota row) lists e =
      elim (row.id == id) as (λ b. cond b (Some row) (row_at (λ q. q.id) id lists.catalogue.quotas) ≡ None → row_at (λ q. q.id) id lists.catalogue.quotas ≡ None) [
        | true ↦ λ f. absurd cc
        | false ↦ λ f. f
      ] (sym (row_at-with_row (λ q. q.id) id row lists.catalogue.quotas) ∙ e)
  stays_one (PutVoucher row) lists e = e
  stays_one (PutCart row) lists e = e
  stays_one (PutOrder row) lists e = e
  stays_one (PutPosition row) lists e = e
  stays_one (PutWaiting row) lists e = e
  stays_one (DropVoucher gone) lists e = e
  stays_one (DropCart gone) lists e = e
  stays_one (DropWaiting gone) lists e = e
  stays_one (PutCheckinList row) lists e = e
  stays_one (PutCheckin row) lists e = e

  stays_all : (changes : List Change) (lists : Lists) → row_at (λ q. q.id) id (after_all changes lists).catalogue.quotas ≡ None → row_at (λ q. q.id) id lists.catalogue.quotas ≡ None
  stays_all [] lists e = e
  stays_all (change ∷ changes) lists e = stays_one change lists (stays_all changes (after_change change lists) e)

-- a quota that isn't counted wasn't
none_counted : (changes : List Change) (s z : State) → z.lists ≡ after_all changes s.lists → (id : ℕ) → row_at (λ c. c.quota) id (quota_counts z) ≡ None → row_at (λ c. c.quota) id (quota_counts s) ≡ None
none_counted changes s z is id none =
    let gone : row_at (λ q. q.id) id z.lists.catalogue.quotas ≡ None = some_of _ _ (sym (found_part (λ q. q.id) (quota_count z) (λ c. c.quota) (λ q. refl) id z.lists.catalogue.quotas)) none in
    let was = stays_all id changes s.lists (subst (λ l. row_at (λ q. q.id) id l.catalogue.quotas ≡ None) is gone) in
    some_of _ _ (found_part (λ q. q.id) (quota_count s) (λ c. c.quota) (λ q. refl) id s.lists.catalogue.quotas) was

-- the counts of quotas, once those that differ were put
pub quotas_counted : (changes : List Change) (s z : State) → z.lists ≡ after_all changes s.lists → AreInOrder (λ q. q.id) s.lists.catalogue.quotas → AreInOrder (λ q. q.id) z.lists.catalogue.quotas
    → with_all (λ c. c.quota) (counts_after s z).quotas (quota_counts s) ≡ quota_counts z
quotas_counted changes s z is h k =
    let before = order_of_parts (λ q. q.id) (quota_count s) (λ c. c.quota) (λ q. refl) 0 s.lists.catalogue.quotas h in
    let after = order_of_parts (λ q. q.id) (quota_count z) (λ c. c.quota) (λ q. refl) 0 z.lists.catalogue.quotas k in
    ap (λ l. with_all (λ c. c.quota) l (quota_counts s)) (sym (map_same (counts_after s z).quotas))
    ∙ counts_written (λ c. c.quota) same_quota_count same_quota_tells (λ c. c.quota) (λ c. c) (λ c. refl) (quota_counts s) (quota_counts z) (quota_counts s) before after before
    (none_counted changes s z is) (λ id a e none stood. stood)
    ∙ map_same (quota_counts z)

-- ---- of these, how many tickets are out

abbrev pub of_exit : ExitRow → ℕ
of_exit r = r.quota

abbrev same_exit : ExitRow → ExitRow → Bool
same_exit a b = a.quota == b.quota && a.exited == b.exited

same_exit_tells : (a b : ExitRow) → same_exit a b ≡ true → a ≡ b
same_exit_tells a b e =
    let parts = and_parts (a.quota == b.quota) (a.exited == b.exited) e in
    let first : a.quota ≡ b.quota = eqb-true a.quota b.quota parts.0 in
    let second : a.exited ≡ b.exited = eqb-true a.exited b.exited parts.1 in
    λ i. record { quota = first i; exited = second i }

-- a count that is the same has the same exits
same_too : (a b : QuotaCount) → same_quota_count a b ≡ true → same_exits a b ≡ true
same_too a b e = subst (λ c. same_exits a c ≡ true) (same_quota_tells a b e) (itself a)
  where
    itself : (a : QuotaCount) → same_exits a a ≡ true
    itself a = grind (arith, nat_tests)

among_too : (a : QuotaCount) (before : List QuotaCount) → list_any (same_quota_count a) before ≡ true → list_any (same_exits a) before ≡ true
among_too a [] e = absurd cc
among_too a (b ∷ before) e =
    elim (same_quota_count a b) as (λ t. same_quota_count a b ≡ t → (t || list_any (same_quota_count a) before) ≡ true → (same_exits a b || list_any (same_exits a) before) ≡ true) [
      | true ↦ λ f _. ap (λ t. t || list_any (same_exits a) before) (same_too a b f)
      | false ↦ λ f more. elim (same_exits a b) as (λ t. (t || list_any (same_exits a) before) ≡ true) [
        | true ↦ refl
        | false ↦ among_too a before more
      ]
    ] refl e

-- a count whose exits differ differs
differs_too : (before : List QuotaCount) (c : QuotaCount) → not (list_any (same_exits c) before) ≡ true → not (list_any (same_quota_count c) before) ≡ true
differs_too before c e =
    elim (list_any (same_quota_count c) before) as (λ t. list_any (same_quota_count c) before ≡ t → not t ≡ true) [
      | true ↦ λ f. absurd (let there = among_too c before f in cc)
      | false ↦ λ f. refl
    ] refl

-- rows of exits are tested as their counts are
among_heads : (c : QuotaCount) (before : List QuotaCount) → list_any (same_exit (head_of_exit c)) (map head_of_exit before) ≡ list_any (same_exits c) before
among_heads c [] = refl
among_heads c (b ∷ before) = ap (λ t. same_exits c b || t) (among_heads c before)

-- the rows of exits that differ are those of the counts whose exits differ
exits_of : (before after : List QuotaCount) → map head_of_exit (filter (λ c. not (list_any (same_exits c) before)) after) ≡ filter (λ r. not (list_any (same_exit r) (map head_of_exit before))) (map head_of_exit after)
exits_of before [] = refl
exits_of before (c ∷ after) =
    let more = exits_of before after in
    let left = filter (λ c. not (list_any (same_exits c) before)) after in
    let right = filter (λ r. not (list_any (same_exit r) (map head_of_exit before))) (map head_of_exit after) in
    elim (list_any (same_exits c) before) as (λ t. map head_of_exit (cond (not t) (c ∷ left) left) ≡ cond (not t) (head_of_exit c ∷ right) right) [
      | true ↦ more
      | false ↦ ap (λ l. head_of_exit c ∷ l) more
    ]
    ∙ ap (λ t. cond (not t) (head_of_exit c ∷ right) right) (sym (among_heads c before))

pub exits_in_order : (s : State) → AreInOrder (λ q. q.id) s.lists.catalogue.quotas → AreInOrder of_exit (map head_of_exit (quota_counts s))
exits_in_order s h = order_of_parts (λ c. c.quota) head_of_exit of_exit (λ c. refl) 0 (quota_counts s) (order_of_parts (λ q. q.id) (quota_count s) (λ c. c.quota) (λ q. refl) 0 s.lists.catalogue.quotas h)

-- the rows of exits, once those that differ were put
pub exits_counted : (changes : List Change) (s z : State) → z.lists ≡ after_all changes s.lists → AreInOrder (λ q. q.id) s.lists.catalogue.quotas → AreInOrder (λ q. q.id) z.lists.catalogue.quotas
    → with_all of_exit (map head_of_exit (counts_after s z).exits) (map head_of_exit (quota_counts s)) ≡ map head_of_exit (quota_counts z)
exits_counted changes s z is h k =
    let before = quota_counts s in
    let after = quota_counts z in
    let listed : (counts_after s z).exits ≡ filter (λ c. not (list_any (same_exits c) before)) after =
    filter-filter (λ (c : QuotaCount). not (list_any (same_exits c) before)) (λ c. not (list_any (same_quota_count c) before)) (differs_too before) after in
    let differ = filter (λ r. not (list_any (same_exit r) (map head_of_exit before))) (map head_of_exit after) in
    let rows : map head_of_exit (counts_after s z).exits ≡ map (λ r. r) differ = ap (λ l. map head_of_exit l) listed ∙ exits_of before after ∙ sym (map_same differ) in
    ap (λ l. with_all of_exit l (map head_of_exit before)) rows
    ∙ counts_written of_exit same_exit same_exit_tells of_exit (λ r. r) (λ r. refl) (map head_of_exit before) (map head_of_exit after) (map head_of_exit before) (exits_in_order s h) (exits_in_order z k) (exits_in_order s h)
    (λ id none.
    let gone = some_of _ _ (sym (found_part (λ c. c.quota) head_of_exit of_exit (λ c. refl) id after)) none in
    some_of _ _ (found_part (λ c. c.quota) head_of_exit of_exit (λ c. refl) id before) (none_counted changes s z is id gone))
    (λ id a e none stood. stood)
    ∙ map_same (map head_of_exit after)

-- ---- vouchers

abbrev pub of_voucher : VoucherCount → ℕ
of_voucher c = c.voucher

abbrev pub of_redeemed : Redeemed → ℕ
of_redeemed c = c.voucher

abbrev pub of_spent : SpentRow → ℕ
of_spent c = c.voucher_id

found_id : (id : ℕ) (a : VoucherCount) (counts : List VoucherCount) → row_at of_voucher id counts ≡ Some a → a.voucher ≡ id
found_id id a [] e = absurd cc
found_id id a (c ∷ counts) e = elim (c.voucher == id) as (λ b. (c.voucher == id) ≡ b → cond b (Some c) (row_at of_voucher id counts) ≡ Some a → a.voucher ≡ id) [
  | true ↦ λ f g. let is : c ≡ a = cc in ap of_voucher (sym is) ∙ eqb-true c.voucher id f
  | false ↦ λ f g. found_id id a counts g
] refl e

counts_in_order : (s : State) → AreInOrder (λ v. v.id) s.lists.vouchers → AreInOrder of_voucher (voucher_counts s)
counts_in_order s h = order_of_parts (λ v. v.id) (voucher_count s) of_voucher (λ v. refl) 0 s.lists.vouchers h

pub counts_found : (s : State) → AllStand of_voucher s.lists.vouchers (voucher_counts s)
counts_found s id = found_part (λ v. v.id) (voucher_count s) of_voucher (λ v. refl) id s.lists.vouchers

-- rows of which each has a part of a voucher's counts
module _ {U : Type 0} (key : U → ℕ) (part : VoucherCount → U) (is : (c : VoucherCount) → key (part c) ≡ c.voucher) where
  pub all_start : (s : State) → AllStand key s.lists.vouchers (map part (voucher_counts s))
  all_start s id = found_part of_voucher part key is id (voucher_counts s) ∙ counts_found s id

  pub counting_starts : (listed : List VoucherCount) (s : State) → AreInOrder (λ v. v.id) s.lists.vouchers → CountsKept key part false listed (voucher_counts s) s.lists.vouchers (map part (voucher_counts s))
  counting_starts listed s h = record {
    in_order = order_of_parts of_voucher part key is 0 (voucher_counts s) (counts_in_order s h);
    gone = λ id none. some_of _ _ (all_start s id) none;
    as_before = λ id a there none. inr (row_of_parts of_voucher part key is id (voucher_counts s) ∙ ap (part_of part) there);
  }

  module _ (listed before : List VoucherCount) (vouchers : List Voucher) (rows : List U) where
    -- a voucher goes with its row
    pub counting_drop : (dropped : Bool) (gone : ℕ) → CountsKept key part dropped listed before vouchers rows → CountsKept key part true listed before (without_row (λ v. v.id) gone vouchers) (without_row key gone rows)
    counting_drop dropped gone h = record {
      in_order = drop_stays key gone rows h.in_order;
      gone = λ id none.
          row_at-without_row key id gone rows
          ∙ elim (gone == id) as (λ b. cond b None (row_at (λ v. v.id) id vouchers) ≡ None → cond b None (row_at key id rows) ≡ None) [
            | true ↦ λ e. refl
            | false ↦ λ e. h.gone id e
          ] (sym (row_at-without_row (λ v. v.id) id gone vouchers) ∙ none);
      as_before = λ id a there none.
          subst (λ o. ((true ≡ true) × (o ≡ None)) ⊎ (row_at key id (without_row key gone rows) ≡ Some (part a))) (sym (row_at-without_row (λ v. v.id) id gone vouchers))
          (subst (λ o. ((true ≡ true) × (cond (gone == id) None (row_at (λ v. v.id) id vouchers) ≡ None)) ⊎ (o ≡ Some (part a))) (sym (row_at-without_row key id gone rows))
          (elim (gone == id) as (λ b. ((true ≡ true) × (cond b None (row_at (λ v. v.id) id vouchers) ≡ None)) ⊎ (cond b None (row_at key id rows) ≡ Some (part a))) [
            | true ↦ inl (refl, refl)
            | false ↦ elim (h.as_before id a there none) [
              | inl was ↦ inl (refl, was.1)
              | inr is ↦ inr is
            ]
          ]));
    }

    pub all_drop : (gone : ℕ) → AllStand key vouchers rows → AllStand key (without_row (λ v. v.id) gone vouchers) (without_row key gone rows)
    all_drop gone h id =
        ap is_some (row_at-without_row key id gone rows)
        ∙ elim (gone == id) as (λ b. is_some (cond b None (row_at key id rows)) ≡ is_some (cond b None (row_at (λ v. v.id) id vouchers))) [
          | true ↦ refl
          | false ↦ h id
        ]
        ∙ ap is_some (sym (row_at-without_row (λ v. v.id) id gone vouchers))

    -- a voucher that is put has no row where it had none
    pub counting_stays : (row : Voucher) → CountsKept key part false listed before vouchers rows → CountsKept key part false listed before (with_row (λ v. v.id) row vouchers) rows
    counting_stays row h = record {
      in_order = h.in_order;
      gone = λ id none.
          elim (row.id == id) as (λ b. cond b (Some row) (row_at (λ v. v.id) id vouchers) ≡ None → row_at key id rows ≡ None) [
            | true ↦ λ e. absurd cc
            | false ↦ λ e. h.gone id e
          ] (sym (row_at-with_row (λ v. v.id) id row vouchers) ∙ none);
      as_before = λ id a there none. inr (kept id a there none);
    }
      where
        kept : (id : ℕ) (a : VoucherCount) → row_at of_voucher id before ≡ Some a → row_at of_voucher id listed ≡ None → row_at key id rows ≡ Some (part a)
        kept id a there none = elim (h.as_before id a there none) [
          | inl gone ↦ absurd (let e : false ≡ true = gone.0 in cc)
          | inr is ↦ is
        ]

  -- once the parts of the counts that differ were put
  pub vouchers_counted : (dropped : Bool) (s z : State) (rows : List U) → AreInOrder (λ v. v.id) s.lists.vouchers → AreInOrder (λ v. v.id) z.lists.vouchers
      → CountsKept key part dropped (counts_after s z).vouchers (voucher_counts s) z.lists.vouchers rows → with_all key (map part (counts_after s z).vouchers) rows ≡ map part (voucher_counts z)
  vouchers_counted dropped s z rows h k kept =
      counts_written of_voucher same_voucher_count same_voucher_tells key part is (voucher_counts s) (voucher_counts z) rows (counts_in_order s h) (counts_in_order z k) kept.in_order
      (λ id none. kept.gone id (some_of _ _ (sym (counts_found z id)) none))
      (λ id a e none stood. elim (kept.as_before id a stood none) [
        | inl gone ↦ absurd (let here : is_some (Some a) ≡ is_some (row_at (λ v. v.id) id z.lists.vouchers) = ap is_some (sym e) ∙ counts_found z id in let nothing : is_some (row_at (λ v. v.id) id z.lists.vouchers) ≡ false = ap is_some gone.1 in cc)
        | inr is ↦ is
      ])

-- ---- a voucher that is put keeps how often it is redeemed, and a new one is redeemed 0 times

abbrev pub redeemed_as : Voucher → List Redeemed → Redeemed
redeemed_as row rows = record { voucher = row.id; redeemed = redeemed_of row.id rows }

module _ (listed before : List VoucherCount) (vouchers : List Voucher) (rows : List Redeemed) (row : Voucher) where
  pub counting_put : CountsKept of_redeemed head_of_redeemed false listed before vouchers rows → CountsKept of_redeemed head_of_redeemed false listed before (with_row (λ v. v.id) row vouchers) (with_row of_redeemed (redeemed_as row rows) rows)
  counting_put h = record {
    in_order = put_stays of_redeemed (redeemed_as row rows) rows h.in_order;
    gone = λ id none.
        row_at-with_row of_redeemed id (redeemed_as row rows) rows
        ∙ elim (row.id == id) as (λ b. cond b (Some row) (row_at (λ v. v.id) id vouchers) ≡ None → cond b (Some (redeemed_as row rows)) (row_at of_redeemed id rows) ≡ None) [
          | true ↦ λ e. absurd cc
          | false ↦ λ e. h.gone id e
        ] (sym (row_at-with_row (λ v. v.id) id row vouchers) ∙ none);
    as_before = λ id a there none.
        let was : row_at of_redeemed id rows ≡ Some (head_of_redeemed a) = elim (h.as_before id a there none) [
          | inl gone ↦ absurd (let e : false ≡ true = gone.0 in cc)
          | inr is ↦ is
        ] in
        inr (row_at-with_row of_redeemed id (redeemed_as row rows) rows
        ∙ elim (row.id == id) as (λ b. (row.id == id) ≡ b → cond b (Some (redeemed_as row rows)) (row_at of_redeemed id rows) ≡ Some (head_of_redeemed a)) [
          | true ↦ λ e.
              let mine : row.id ≡ id = eqb-true row.id id e in
              let first : row.id ≡ a.voucher = mine ∙ sym (found_id id a before there) in
              let second : redeemed_of row.id rows ≡ a.redeemed = ap (λ n. redeemed_of n rows) mine ∙ ap redeemed_by was in
              λ i. Some (record { voucher = first i; redeemed = second i })
          | false ↦ λ e. was
        ] refl);
  }

  pub all_put : AllStand of_redeemed vouchers rows → AllStand of_redeemed (with_row (λ v. v.id) row vouchers) (with_row of_redeemed (redeemed_as row rows) rows)
  all_put h id =
      ap is_some (row_at-with_row of_redeemed id (redeemed_as row rows) rows)
      ∙ elim (row.id == id) as (λ b. is_some (cond b (Some (redeemed_as row rows)) (row_at of_redeemed id rows)) ≡ is_some (cond b (Some row) (row_at (λ v. v.id) id vouchers))) [
        | true ↦ refl
        | false ↦ h id
      ]
      ∙ ap is_some (sym (row_at-with_row (λ v. v.id) id row vouchers))

-- what is found among counts, in whatever order they are
only : {T : Type 0} (key : T → ℕ) (id : ℕ) (rows : List T) → row_at key id rows ≡ first_of (filter (λ r. key r == id) rows)
only key id [] = refl
only key id (r ∷ rows) = elim (key r == id) as (λ b. cond b (Some r) (row_at key id rows) ≡ first_of (cond b (r ∷ filter (λ r. key r == id) rows) (filter (λ r. key r == id) rows))) [
  | true ↦ refl
  | false ↦ only key id rows
]

pub few : {T : Type 0} (key : T → ℕ) (n id : ℕ) (rows : List T) → InOrderFrom key n rows → (filter (λ r. key r == id) rows ≡ []) ⊎ ((r : T) × (filter (λ r. key r == id) rows ≡ r ∷ []))
few key n id [] h = inl refl
few {T} key n id (r ∷ rows) h = elim (key r == id) as (λ b. (key r == id) ≡ b → (cond b (r ∷ filter (λ r. key r == id) rows) (filter (λ r. key r == id) rows) ≡ []) ⊎ ((x : T) × (cond b (r ∷ filter (λ r. key r == id) rows) (filter (λ r. key r == id) rows) ≡ x ∷ []))) [
  | true ↦ λ e. inr (r, ap (λ l. r ∷ l) (at_above key (key r + 1) id rows (grind (arith, nat_tests)) h.1))
  | false ↦ λ e. few key (key r + 1) id rows h.1
] refl

pub same_found_in : {T : Type 0} (key : T → ℕ) (id : ℕ) (xs ys : List T) → AreInOrder key ys → IsPermutation xs ys → row_at key id xs ≡ row_at key id ys
same_found_in key id xs ys h same =
    let cut = IsPermutation-sym _ _ (IsPermutation-filter (λ r. key r == id) xs ys same) in
    only key id xs
    ∙ ap first_of (elim (few key 0 id ys h) [
      | inl none ↦ empty (filter (λ r. key r == id) xs) (length_permutation (filter (λ r. key r == id) xs) [] (subst (IsPermutation (filter (λ r. key r == id) xs)) none (IsPermutation-sym _ _ cut))) ∙ sym none
      | inr one ↦ one_permutation one.0 (filter (λ r. key r == id) xs) (subst (λ l. IsPermutation l (filter (λ r. key r == id) xs)) one.1 cut) ∙ sym one.1
    ])
    ∙ sym (only key id ys)
  where
    empty : {T : Type 0} (l : List T) → 0 ≡ Rattle.std.proofs.Common.length l → l ≡ []
    empty [] e = refl
    empty (x ∷ l) e = absurd (omega (arith, e))
