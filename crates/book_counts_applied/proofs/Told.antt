-- The counts that are told, put into what was kept before, are those afterwards.
use Rattle.std.proofs.Common.{◌≡◌, ℕ, ◌+◌, ◌==◌, ◌&&◌, eqb, Bool, true, false, cond, not, List, [], ◌∷◌, map, filter, Option, Some, None, refl, sym, ap, subst, ◌∙◌, arith}
use Rattle.std.proofs.lemmas.Bool.{and_parts, eqb-true}
use Rattle.std.proofs.lemmas.Bool.Decides.{nat_tests}
use Rattle.base_tables.specs.Tables.{row_at, InOrderFrom, AreInOrder}
use Rattle.base_tables.proofs.Edits.{row_at_above}
use Rattle.base_tables.proofs.Places.{filter_in_order}
use Rattle.model_catalogue.specs.declared.rows.Quota.{Quota}
use Rattle.model_catalogue.specs.CatalogueLists.{quota_at}
use Rattle.model_rows.specs.declared.rows.Usage.{Usage}
use Rattle.model_rows.specs.declared.count_rows.QuotaCount.{QuotaCount}
use Rattle.model_rows.specs.CountRows.{CountRows, quota_counts, quota_count, same_usage, counts_after}
use Rattle.model_rows.specs.Lists.{State}
use Rattle.model_rows.specs.Usage.{usage_of}
use Rattle.model_rows.proofs.Found.{each_found}
use Rattle.book_counts_to_write.specs.Told.{has_count}
use Rattle.book_counts_to_write.proofs.ToldRows.{had_none, had_some}
use Rattle.model_rows.specs.declared.rows.Voucher.{Voucher}
use Rattle.model_rows.specs.declared.count_rows.VoucherCount.{VoucherCount}
use Rattle.model_rows.specs.CountRows.{voucher_counts, voucher_count}
use Rattle.model_rows.specs.Lists.{voucher_at}
use Rattle.model_rows.specs.Usage.{redeemed, spent}
use Rattle.model_rows.proofs.EachRow.{key-row_at}
use Rattle.book_counts_to_write.specs.Told.{has_voucher}
use Rattle.book_counts_to_write.proofs.ToldRows.{no_voucher, some_voucher}
use Rattle.book_counts_applied.specs.Settled.{used_at, used_if, redeemed_at, redeemed_if, spent_at, spent_if, put_each}
use Rattle.book_counts_applied.proofs.Puts.{found_or, put_found, same_map_where}

same_tells : (a b : Usage) → same_usage a b ≡ true → a ≡ b
same_tells a b e =
    let p = and_parts (a.paid == b.paid) _ e in
    let q = and_parts (a.pending == b.pending) _ p.1 in
    let r = and_parts (a.blocked == b.blocked) _ q.1 in
    let s = and_parts (a.carts == b.carts) _ r.1 in
    let t = and_parts (a.waiting == b.waiting) (a.exited == b.exited) s.1 in
    let paid : a.paid ≡ b.paid = eqb-true a.paid b.paid p.0 in
    let pending : a.pending ≡ b.pending = eqb-true a.pending b.pending q.0 in
    let blocked : a.blocked ≡ b.blocked = eqb-true a.blocked b.blocked r.0 in
    let carts : a.carts ≡ b.carts = eqb-true a.carts b.carts s.0 in
    let waiting : a.waiting ≡ b.waiting = eqb-true a.waiting b.waiting t.0 in
    let exited : a.exited ≡ b.exited = eqb-true a.exited b.exited t.1 in
    λ i. record { paid = paid i; pending = pending i; blocked = blocked i; carts = carts i; waiting = waiting i; exited = exited i }

module _ {T : Type 0} (key : T → ℕ) where
  abbrev if_passes : (T → Bool) → Option T → Option T
  if_passes p None = None
  if_passes p (Some row) = cond (p row) (Some row) None

  row_at-filter : (p : T → Bool) (n id : ℕ) (rows : List T) → InOrderFrom key n rows → row_at key id (filter p rows) ≡ if_passes p (row_at key id rows)
  row_at-filter p n id [] h = refl
  row_at-filter p n id (r ∷ rows) h =
      let more = row_at-filter p (key r + 1) id rows h.1 in
      elim (key r == id) as (λ b. (key r == id) ≡ b → row_at key id (cond (p r) (r ∷ filter p rows) (filter p rows)) ≡ if_passes p (cond b (Some r) (row_at key id rows))) [
        | true ↦ λ e.
            let none : row_at key id rows ≡ None = row_at_above key (key r + 1) id rows (grind (arith, nat_tests)) h.1 in
            elim (p r) as (λ b. row_at key id (cond b (r ∷ filter p rows) (filter p rows)) ≡ cond b (Some r) None) [
              | true ↦ ap (λ b. cond b (Some r) (row_at key id (filter p rows))) e
              | false ↦ more ∙ ap (if_passes p) none
            ]
        | false ↦ λ e. elim (p r) as (λ b. row_at key id (cond b (r ∷ filter p rows) (filter p rows)) ≡ if_passes p (row_at key id rows)) [
          | true ↦ ap (λ b. cond b (Some r) (row_at key id (filter p rows))) e ∙ more
          | false ↦ more
        ]
      ] refl

counts_in_order : (state : State) (n : ℕ) (quotas : List Quota) → InOrderFrom (λ q. q.id) n quotas → InOrderFrom (λ c. c.quota) n (map (quota_count state) quotas)
counts_in_order state n [] h = tt
counts_in_order state n (q ∷ qs) h = (h.0, counts_in_order state (q.id + 1) qs h.1)

abbrev count_if : State → Option Quota → Option QuotaCount
count_if state None = None
count_if state (Some q) = Some (quota_count state q)

count_found : (state : State) (id : ℕ) (quotas : List Quota) → row_at (λ c. c.quota) id (map (quota_count state) quotas) ≡ count_if state (row_at (λ q. q.id) id quotas)
count_found state id [] = refl
count_found state id (q ∷ qs) = elim (q.id == id) as (λ b. cond b (Some (quota_count state q)) (row_at (λ c. c.quota) id (map (quota_count state) qs)) ≡ count_if state (cond b (Some q) (row_at (λ q. q.id) id qs))) [
  | true ↦ refl
  | false ↦ count_found state id qs
]

module _ (s z : State) (before : AreInOrder (λ q. q.id) s.lists.catalogue.quotas) (after : AreInOrder (λ q. q.id) z.lists.catalogue.quotas) where
  abbrev listed : List QuotaCount
  listed = (counts_after s z).quotas

  listed_order : InOrderFrom (λ c. c.quota) 0 listed
  listed_order = filter_in_order (λ c. c.quota) (λ c. not (has_count s c)) 0 (quota_counts z) (counts_in_order z 0 z.lists.catalogue.quotas after)

  -- of a quota that stands afterwards its count is listed, unless it was the same
  found : (q : Quota) → quota_at q.id z.lists.catalogue ≡ Some q → row_at (λ c. c.quota) q.id listed ≡ cond (not (has_count s (quota_count z q))) (Some (quota_count z q)) None
  found q stands =
      row_at-filter (λ c. c.quota) (λ c. not (has_count s c)) 0 q.id (quota_counts z) (counts_in_order z 0 z.lists.catalogue.quotas after)
      ∙ ap (if_passes (λ c. c.quota) (λ c. not (has_count s c))) (count_found z q.id z.lists.catalogue.quotas ∙ ap (count_if z) stands)

  -- one that had the same count is used as it was
  had : (q : Quota) (o : Option Quota) → quota_at q.id s.lists.catalogue ≡ o → has_count s (quota_count z q) ≡ true → used_if s o ≡ usage_of z.lists z.moment q
  had q None stood same = absurd (let e : false ≡ true = had_none s (quota_count z q) s.lists.catalogue refl before stood ∙ same in cc)
  had q (Some o) stood same =
      let e : same_usage (usage_of z.lists z.moment q) (usage_of s.lists s.moment o) ≡ true = had_some s (quota_count z q) s.lists.catalogue refl before o s.moment (usage_of s.lists s.moment o) _ stood refl refl refl ∙ same in
      sym (same_tells (usage_of z.lists z.moment q) (usage_of s.lists s.moment o) e)

  one : (q : Quota) → quota_at q.id z.lists.catalogue ≡ Some q → put_each (λ c. c.quota) (λ c. c.usage) listed (used_at s) q.id ≡ usage_of z.lists z.moment q
  one q stands =
      put_found (λ c. c.quota) (λ c. c.usage) 0 q.id listed (used_at s) listed_order ∙ ap (λ o. found_or (λ c. c.quota) (λ c. c.usage) o (used_at s q.id)) (found q stands)
      ∙ elim (has_count s (quota_count z q)) as (λ b. has_count s (quota_count z q) ≡ b → found_or (λ c. c.quota) (λ c. c.usage) (cond (not b) (Some (quota_count z q)) None) (used_at s q.id) ≡ usage_of z.lists z.moment q) [
        | true ↦ λ e. had q (quota_at q.id s.lists.catalogue) refl e
        | false ↦ λ e. refl
      ] refl

  pub settled : map (λ q. put_each (λ c. c.quota) (λ c. c.usage) listed (used_at s) q.id) z.lists.catalogue.quotas ≡ map (usage_of z.lists z.moment) z.lists.catalogue.quotas
  settled =
      same_map_where (λ (q : Quota). quota_at q.id z.lists.catalogue ≡ Some q) (λ q. put_each (λ c. c.quota) (λ c. c.usage) listed (used_at s) q.id) (usage_of z.lists z.moment) z.lists.catalogue.quotas one
      (each_found (λ (q : Quota). q.id) 0 z.lists.catalogue.quotas after)

-- the same of a book that puts them
pub settle_is : (s z : State) (us more : List Usage) (counts : CountRows) (cs : List QuotaCount) (quotas : List Quota) → AreInOrder (λ q. q.id) s.lists.catalogue.quotas → AreInOrder (λ q. q.id) quotas → quotas ≡ z.lists.catalogue.quotas → counts ≡ counts_after s z → cs ≡ counts.quotas
    → us ≡ map (λ q. used_at s q.id) quotas → ((f : ℕ → Usage) → us ≡ map (λ q. f q.id) quotas → more ≡ map (λ q. put_each (λ c. c.quota) (λ c. c.usage) cs f q.id) quotas) → more ≡ map (usage_of z.lists z.moment) z.lists.catalogue.quotas
settle_is s z us more counts cs quotas before after same counts_are cs_are us_are puts =
    puts (used_at s) us_are
    ∙ ap (λ (l : List QuotaCount). map (λ q. put_each (λ c. c.quota) (λ c. c.usage) l (used_at s) q.id) quotas) (cs_are ∙ ap (λ (c : CountRows). c.quotas) counts_are)
    ∙ ap (λ (l : List Quota). map (λ q. put_each (λ c. c.quota) (λ c. c.usage) (counts_after s z).quotas (used_at s) q.id) l) same
    ∙ settled s z before (subst (λ (l : List Quota). AreInOrder (λ q. q.id) l) same after)

-- ---- vouchers

module _ (state : State) where
  redeems_in_order : (n : ℕ) (rows : List Voucher) → InOrderFrom (λ v. v.id) n rows → InOrderFrom (λ c. c.voucher) n (map (voucher_count state) rows)
  redeems_in_order n [] h = tt
  redeems_in_order n (v ∷ vs) h = (h.0, redeems_in_order (v.id + 1) vs h.1)

  abbrev redeem_if : Option Voucher → Option VoucherCount
  redeem_if None = None
  redeem_if (Some v) = Some (voucher_count state v)

  redeem_found : (id : ℕ) (rows : List Voucher) → row_at (λ c. c.voucher) id (map (voucher_count state) rows) ≡ redeem_if (row_at (λ v. v.id) id rows)
  redeem_found id [] = refl
  redeem_found id (v ∷ vs) = elim (v.id == id) as (λ b. cond b (Some (voucher_count state v)) (row_at (λ c. c.voucher) id (map (voucher_count state) vs)) ≡ redeem_if (cond b (Some v) (row_at (λ v. v.id) id vs))) [
    | true ↦ refl
    | false ↦ redeem_found id vs
  ]

module _ (s z : State) (before : AreInOrder (λ v. v.id) s.lists.vouchers) (after : AreInOrder (λ v. v.id) z.lists.vouchers) where
  abbrev told : List VoucherCount
  told = (counts_after s z).vouchers

  told_order : InOrderFrom (λ c. c.voucher) 0 told
  told_order = filter_in_order (λ c. c.voucher) (λ c. not (has_voucher s c)) 0 (voucher_counts z) (redeems_in_order z 0 z.lists.vouchers after)

  told_found : (v : Voucher) → voucher_at v.id z.lists ≡ Some v → row_at (λ c. c.voucher) v.id told ≡ cond (not (has_voucher s (voucher_count z v))) (Some (voucher_count z v)) None
  told_found v stands =
      row_at-filter (λ c. c.voucher) (λ c. not (has_voucher s c)) 0 v.id (voucher_counts z) (redeems_in_order z 0 z.lists.vouchers after)
      ∙ ap (if_passes (λ c. c.voucher) (λ c. not (has_voucher s c))) (redeem_found z v.id z.lists.vouchers ∙ ap (redeem_if z) stands)

  -- one that had the same count is redeemed as often, and as much is spent of it
  kept : (v : Voucher) (o : Option Voucher) → voucher_at v.id s.lists ≡ o → has_voucher s (voucher_count z v) ≡ true → (redeemed_if s o ≡ redeemed v.id z.lists) × (spent_if s o ≡ spent v.id z.lists)
  kept v None stood same = absurd (let e : false ≡ true = no_voucher s (voucher_count z v) before stood ∙ same in cc)
  kept v (Some o) stood same =
      let e : (eqb (redeemed v.id z.lists) (redeemed v.id s.lists) && eqb (spent v.id z.lists) (spent v.id s.lists)) ≡ true = some_voucher s (voucher_count z v) before o (redeemed v.id s.lists) (spent v.id s.lists) _ stood refl refl refl ∙ same in
      let both = and_parts (eqb (redeemed v.id z.lists) (redeemed v.id s.lists)) (eqb (spent v.id z.lists) (spent v.id s.lists)) e in
      let own : o.id ≡ v.id = key-row_at (λ (r : Voucher). r.id) v.id s.lists.vouchers o stood in
      (ap (λ k. redeemed k s.lists) own ∙ sym (eqb-true (redeemed v.id z.lists) (redeemed v.id s.lists) both.0), ap (λ k. spent k s.lists) own ∙ sym (eqb-true (spent v.id z.lists) (spent v.id s.lists) both.1))

  -- a number that is told of each voucher, over what was kept of it
  module _ (value : VoucherCount → ℕ) (was : ℕ → ℕ) (stays : (v : Voucher) → has_voucher s (voucher_count z v) ≡ true → was v.id ≡ value (voucher_count z v)) where
    one_voucher : (v : Voucher) → voucher_at v.id z.lists ≡ Some v → put_each (λ c. c.voucher) value told was v.id ≡ value (voucher_count z v)
    one_voucher v stands =
        put_found (λ c. c.voucher) value 0 v.id told was told_order ∙ ap (λ o. found_or (λ c. c.voucher) value o (was v.id)) (told_found v stands)
        ∙ elim (has_voucher s (voucher_count z v)) as (λ b. has_voucher s (voucher_count z v) ≡ b → found_or (λ c. c.voucher) value (cond (not b) (Some (voucher_count z v)) None) (was v.id) ≡ value (voucher_count z v)) [
          | true ↦ λ e. stays v e
          | false ↦ λ e. refl
        ] refl

    vouchers_settled : map (λ v. put_each (λ c. c.voucher) value told was v.id) z.lists.vouchers ≡ map (λ v. value (voucher_count z v)) z.lists.vouchers
    vouchers_settled =
        same_map_where (λ (v : Voucher). voucher_at v.id z.lists ≡ Some v) (λ v. put_each (λ c. c.voucher) value told was v.id) (λ v. value (voucher_count z v)) z.lists.vouchers one_voucher
        (each_found (λ (v : Voucher). v.id) 0 z.lists.vouchers after)

    -- the same of a book that puts them
    numbers_are : (rs more : List ℕ) (counts : CountRows) (cs : List VoucherCount) (rows : List Voucher) → rows ≡ z.lists.vouchers → counts ≡ counts_after s z → cs ≡ counts.vouchers
        → rs ≡ map (λ v. was v.id) rows → ((f : ℕ → ℕ) → rs ≡ map (λ v. f v.id) rows → more ≡ map (λ v. put_each (λ c. c.voucher) value cs f v.id) rows) → more ≡ map (λ v. value (voucher_count z v)) z.lists.vouchers
    numbers_are rs more counts cs rows same counts_are cs_are rs_are puts =
        puts was rs_are
        ∙ ap (λ (l : List VoucherCount). map (λ v. put_each (λ c. c.voucher) value l was v.id) rows) (cs_are ∙ ap (λ (c : CountRows). c.vouchers) counts_are)
        ∙ ap (λ (l : List Voucher). map (λ v. put_each (λ c. c.voucher) value (counts_after s z).vouchers was v.id) l) same
        ∙ vouchers_settled

-- how often each voucher is redeemed, in a book that puts what is told
pub redeems_are : (s z : State) (rs more : List ℕ) (counts : CountRows) (cs : List VoucherCount) (rows : List Voucher) → AreInOrder (λ v. v.id) s.lists.vouchers → AreInOrder (λ v. v.id) z.lists.vouchers → rows ≡ z.lists.vouchers → counts ≡ counts_after s z → cs ≡ counts.vouchers
    → rs ≡ map (λ v. redeemed_at s v.id) rows → ((f : ℕ → ℕ) → rs ≡ map (λ v. f v.id) rows → more ≡ map (λ v. put_each (λ c. c.voucher) (λ c. c.redeemed) cs f v.id) rows) → more ≡ map (λ v. redeemed v.id z.lists) z.lists.vouchers
redeems_are s z rs more counts cs rows before after = numbers_are s z before after (λ c. c.redeemed) (redeemed_at s) (λ v same. (kept s z before after v (voucher_at v.id s.lists) refl same).0) rs more counts cs rows

-- and what is spent of it
pub spents_are : (s z : State) (ss more : List ℕ) (counts : CountRows) (cs : List VoucherCount) (rows : List Voucher) → AreInOrder (λ v. v.id) s.lists.vouchers → AreInOrder (λ v. v.id) z.lists.vouchers → rows ≡ z.lists.vouchers → counts ≡ counts_after s z → cs ≡ counts.vouchers
    → ss ≡ map (λ v. spent_at s v.id) rows → ((f : ℕ → ℕ) → ss ≡ map (λ v. f v.id) rows → more ≡ map (λ v. put_each (λ c. c.voucher) (λ c. c.spent) cs f v.id) rows) → more ≡ map (λ v. spent v.id z.lists) z.lists.vouchers
spents_are s z ss more counts cs rows before after = numbers_are s z before after (λ c. c.spent) (spent_at s) (λ v same. (kept s z before after v (voucher_at v.id s.lists) refl same).1) ss more counts cs rows
