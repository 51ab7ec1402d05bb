-- A commit carries tables that hold a box office to those that hold it after the changes.
use Rattle.std.proofs.Common.{◌≡◌, ℕ, ◌+◌, ◌==◌, ◌<◌, nat_lt, Bool, true, false, cond, not, List, [], ◌∷◌, ◌++◌, map, filter, Option, Some, None, is_some, refl, sym, ap, subst, ◌∙◌, arith, append-nil}
use Rattle.std.specs.Borrow.{Bor}
use Rattle.std.specs.List.{AllByRecursion}
use Rattle.std.specs.List.Sorted.{IsPermutation}
use Rattle.std.proofs.lemmas.Bool.Decides.{nat_tests}
use Rattle.std.proofs.lemmas.List.Sorted.{IsPermutation-sym, IsPermutation-trans, IsPermutation-cons, IsPermutation-map, IsPermutation-to_front}
use Rattle.sqlite_trees.proofs.ListLemmas.{filter-map, filter-filter, IsPermutation-filter}
use Rattle.base_tables.specs.Tables.{row_at, with_row, InOrderFrom, AreInOrder}
use Rattle.base_tables.proofs.Edits.{row_at_above, row_at-with_row}
use Rattle.model_rows.specs.declared.changes.Change.{Change}
use Rattle.model_rows.specs.declared.count_rows.QuotaCount.{QuotaCount}
use Rattle.model_rows.specs.declared.count_rows.VoucherCount.{VoucherCount}
use Rattle.model_rows.specs.Change.{Changed, changes_applied}
use Rattle.model_rows.specs.CountRows.{CountRows, counts_after, quota_counts, voucher_counts, quota_count}
use Rattle.model_rows.specs.Lists.{State}
use Rattle.model_answers.specs.declared.kept.Kept.{Kept}
use Rattle.model_answers.specs.KeptAnswers.{lasts}
use Rattle.model_answers.specs.ShopView.{kept_listed, with_kept}
use Rattle.file_rows.specs.declared.rows.ShopRow.{ShopRow}
use Rattle.file_rows.specs.declared.rows.KeptRow.{KeptRow}
use Rattle.file_rows.specs.declared.rows.VoucherRow.{VoucherRow}
use Rattle.file_rows.specs.declared.rows.CountRow.{CountRow}
use Rattle.file_rows.specs.declared.rows.ExitRow.{ExitRow}
use Rattle.file_rows.specs.declared.rows.SpentRow.{SpentRow}
use Rattle.file_rows.specs.Changes.{head_of_voucher, head_of_count, head_of_exit, head_of_spent}
use Rattle.file_rows.specs.Tables.{Tables}
use Rattle.file_meaning.specs.Counts.{with_all, CountsKept}
use Rattle.file_meaning.specs.Free.{IsFree}
use Rattle.file_meaning.specs.Lawful.{puts_come_first}
use Rattle.file_meaning.specs.Made.{set_redeemed, changes_made, next_after, put_shop, put_count, put_exit, put_uses, each, with_counts, with_listed, without_past, commit_made}
use Rattle.file_meaning.specs.Rows.{Redeemed, head_of_redeemed, rows_of, redeemed_in}
use Rattle.file_meaning.specs.Stands.{AreRowsOf, AreOrdered, IsRising, Stand}
use Rattle.file_meaning.proofs.Changed.{part_put, row_put}
use Rattle.file_meaning.proofs.Counting.{all_start, counting_starts, counts_found, quotas_counted, exits_counted, exits_in_order, vouchers_counted, of_exit, of_redeemed, of_spent, of_voucher}
use Rattle.file_meaning.proofs.EachRow.{set_vouchers}
use Rattle.file_meaning.specs.Turned.{AreTurned}
use Rattle.file_meaning.proofs.Follow.{Counted, Stays, follows, stays, still_free, counts_follow}
use Rattle.file_meaning.proofs.Links.{filter_append}
use Rattle.file_meaning.proofs.Made.{all_turned, below_fewer, below_new, below_later, free_later}
use Rattle.file_meaning.proofs.Order.{put_stays}
use Rattle.file_meaning.proofs.Told.{order_of_parts}

-- ---- counters of vouchers

-- a count in the place of the one of its voucher
abbrev with_count_of : Redeemed → Redeemed → Redeemed
with_count_of c x = cond (x.voucher == c.voucher) c x

alone : (c : Redeemed) (n : ℕ) (xs : List Redeemed) → c.voucher < n → InOrderFrom of_redeemed n xs → map (with_count_of c) xs ≡ xs
alone c n [] lt h = refl
alone c n (x ∷ xs) lt h =
    let other : (x.voucher == c.voucher) ≡ false = grind (arith, nat_tests, h.0, lt) in
    rw (other, alone c (x.voucher + 1) xs (omega (arith, h.0, lt)) h.1)

set_is_put : (c : Redeemed) (n : ℕ) (xs : List Redeemed) → InOrderFrom of_redeemed n xs → is_some (row_at of_redeemed c.voucher xs) ≡ true → map (with_count_of c) xs ≡ with_row of_redeemed c xs
set_is_put c n [] h there = absurd cc
set_is_put c n (x ∷ xs) h there =
    elim (x.voucher == c.voucher) as (λ b. (x.voucher == c.voucher) ≡ b → is_some (cond b (Some x) (row_at of_redeemed c.voucher xs)) ≡ true
    → cond b c x ∷ map (with_count_of c) xs ≡ cond (nat_lt x.voucher c.voucher) (x ∷ with_row of_redeemed c xs) (cond b (c ∷ xs) (c ∷ x ∷ xs))) [
      | true ↦ λ e _.
          let least : nat_lt x.voucher c.voucher ≡ false = grind (arith, nat_tests) in
          rw least (ap (λ l. c ∷ l) (alone c (x.voucher + 1) xs (grind (arith, nat_tests)) h.1))
      | false ↦ λ e more. elim (nat_lt x.voucher c.voucher) as (λ b. nat_lt x.voucher c.voucher ≡ b → x ∷ map (with_count_of c) xs ≡ cond b (x ∷ with_row of_redeemed c xs) (c ∷ x ∷ xs)) [
        | true ↦ λ f. ap (λ l. x ∷ l) (set_is_put c (x.voucher + 1) xs h.1 more)
        | false ↦ λ f. absurd (let none : row_at of_redeemed c.voucher xs ≡ None = row_at_above of_redeemed (x.voucher + 1) c.voucher xs (grind (arith, nat_tests)) h.1 in let nothing : is_some (row_at of_redeemed c.voucher xs) ≡ false = ap is_some none in cc)
      ] refl
    ] refl there

abbrev count_of : VoucherRow → Redeemed
count_of r = record { voucher = r.voucher.id; redeemed = r.redeemed }

abbrev pub set_one : VoucherCount → VoucherRow → VoucherRow
set_one c r = cond (r.voucher.id == c.voucher) (record { voucher = r.voucher; redeemed = c.redeemed }) r

eq_of : (a b : ℕ) → (a == b) ≡ true → a ≡ b
eq_of a b e = grind (arith, nat_tests)

count_set : (c : VoucherCount) (r : VoucherRow) → count_of (set_one c r) ≡ with_count_of (head_of_redeemed c) (count_of r)
count_set c r = elim (r.voucher.id == c.voucher) as (λ b. (r.voucher.id == c.voucher) ≡ b → count_of (cond b (record { voucher = r.voucher; redeemed = c.redeemed }) r) ≡ cond b (head_of_redeemed c) (count_of r)) [
  | true ↦ λ e. let is = eq_of r.voucher.id c.voucher e in λ i. record { voucher = is i; redeemed = c.redeemed }
  | false ↦ λ e. refl
] refl

counts_set : (c : VoucherCount) (rows : List VoucherRow) → map count_of (map (set_one c) rows) ≡ map (with_count_of (head_of_redeemed c)) (map count_of rows)
counts_set c [] = refl
counts_set c (r ∷ rows) = rw (count_set c r, counts_set c rows)

voucher_set : (c : VoucherCount) (r : VoucherRow) → (set_one c r).voucher ≡ r.voucher
voucher_set c r = elim (r.voucher.id == c.voucher) as (λ b. (cond b (record { voucher = r.voucher; redeemed = c.redeemed }) r).voucher ≡ r.voucher) [
  | true ↦ refl
  | false ↦ refl
]

vouchers_set : (c : VoucherCount) (rows : List VoucherRow) → map (λ (r : VoucherRow). r.voucher) (map (set_one c) rows) ≡ map (λ (r : VoucherRow). r.voucher) rows
vouchers_set c [] = refl
vouchers_set c (r ∷ rows) = rw (voucher_set c r, vouchers_set c rows)

one_set : (c : VoucherCount) (t : Tables) (xs : List Redeemed) → AreInOrder of_redeemed xs → is_some (row_at of_redeemed c.voucher xs) ≡ true → IsPermutation (redeemed_in t) xs → IsPermutation (redeemed_in (set_redeemed c t)) (with_row of_redeemed (head_of_redeemed c) xs)
one_set c t xs h there same =
    subst (λ l. IsPermutation l (with_row of_redeemed (head_of_redeemed c) xs)) (sym (counts_set c t.vouchers))
    (subst (IsPermutation (map (with_count_of (head_of_redeemed c)) (redeemed_in t))) (set_is_put (head_of_redeemed c) 0 xs h there) (IsPermutation-map (with_count_of (head_of_redeemed c)) (redeemed_in t) xs same))

still_there : (id : ℕ) (c : Redeemed) (xs : List Redeemed) → is_some (row_at of_redeemed id xs) ≡ true → is_some (row_at of_redeemed id (with_row of_redeemed c xs)) ≡ true
still_there id c xs e =
    ap is_some (row_at-with_row of_redeemed id c xs)
    ∙ elim (c.voucher == id) as (λ b. is_some (cond b (Some c) (row_at of_redeemed id xs)) ≡ true) [
      | true ↦ refl
      | false ↦ e
    ]

all_still : (c : Redeemed) (xs : List Redeemed) (cs : List VoucherCount) → AllByRecursion (λ d. is_some (row_at of_redeemed d.voucher xs) ≡ true) cs → AllByRecursion (λ d. is_some (row_at of_redeemed d.voucher (with_row of_redeemed c xs)) ≡ true) cs
all_still c xs [] h = tt
all_still c xs (d ∷ cs) h = (still_there d.voucher c xs h.0, all_still c xs cs h.1)

all_set : (cs : List VoucherCount) (t : Tables) (xs : List Redeemed) → AreInOrder of_redeemed xs → AllByRecursion (λ d. is_some (row_at of_redeemed d.voucher xs) ≡ true) cs → IsPermutation (redeemed_in t) xs
    → IsPermutation (redeemed_in (each put_uses cs t)) (with_all of_redeemed (map head_of_redeemed cs) xs)
all_set [] t xs h there same = same
all_set (c ∷ cs) t xs h there same =
    all_set cs (put_uses c t) (with_row of_redeemed (head_of_redeemed c) xs) (put_stays of_redeemed (head_of_redeemed c) xs h) (all_still (head_of_redeemed c) xs cs there.1) (one_set c t xs h there.0 same)

all_put_spents : (cs : List VoucherCount) (t : Tables) (xs : List SpentRow) → AreInOrder of_spent xs → IsPermutation t.spents xs → IsPermutation (each put_uses cs t).spents (with_all of_spent (map head_of_spent cs) xs)
all_put_spents [] t xs h same = same
all_put_spents (c ∷ cs) t xs h same =
    all_put_spents cs (put_uses c t) (with_row of_spent (head_of_spent c) xs) (put_stays of_spent (head_of_spent c) xs h) (row_put of_spent (head_of_spent c) t.spents xs h same)

set_vouchers_same : (cs : List VoucherCount) (t : Tables) → map (λ (r : VoucherRow). r.voucher) (each put_uses cs t).vouchers ≡ map (λ (r : VoucherRow). r.voucher) t.vouchers
set_vouchers_same [] t = refl
set_vouchers_same (c ∷ cs) t = set_vouchers_same cs (put_uses c t) ∙ vouchers_set c t.vouchers

set_is : (cs : List VoucherCount) (t : Tables) → each put_uses cs t ≡ record t { vouchers = (each put_uses cs t).vouchers; spents = (each put_uses cs t).spents }
set_is [] t = refl
set_is (c ∷ cs) t = set_is cs (put_uses c t)

-- ---- counts of quotas

counts_is : (cs : List QuotaCount) (t : Tables) → each put_count cs t ≡ record t { counts = (each put_count cs t).counts }
counts_is [] t = refl
counts_is (c ∷ cs) t = counts_is cs (put_count c t)

exits_is : (cs : List QuotaCount) (t : Tables) → each put_exit cs t ≡ record t { exits = (each put_exit cs t).exits }
exits_is [] t = refl
exits_is (c ∷ cs) t = exits_is cs (put_exit c t)

all_put : (cs : List QuotaCount) (t : Tables) (xs : List QuotaCount) → AreInOrder (λ c. c.quota) xs → IsPermutation t.counts (map head_of_count xs) → IsPermutation (each put_count cs t).counts (map head_of_count (with_all (λ c. c.quota) cs xs))
all_put [] t xs h same = same
all_put (c ∷ cs) t xs h same = all_put cs (put_count c t) (with_row (λ c. c.quota) c xs) (put_stays (λ c. c.quota) c xs h) (part_put (λ c. c.quota) head_of_count (λ r. r.quota) (λ c. refl) c t.counts xs h same)

all_put_exits : (cs : List QuotaCount) (t : Tables) (xs : List ExitRow) → AreInOrder of_exit xs → IsPermutation t.exits xs → IsPermutation (each put_exit cs t).exits (with_all of_exit (map head_of_exit cs) xs)
all_put_exits [] t xs h same = same
all_put_exits (c ∷ cs) t xs h same =
    all_put_exits cs (put_exit c t) (with_row of_exit (head_of_exit c) xs) (put_stays of_exit (head_of_exit c) xs h) (row_put of_exit (head_of_exit c) t.exits xs h same)

-- beside those of vouchers, only the counts of quotas and their exits differ
quotas_set : (counts : CountRows) (t : Tables) → with_counts counts t ≡ record (each put_uses counts.vouchers t) { counts = (with_counts counts t).counts; exits = (with_counts counts t).exits }
quotas_set counts t =
    let set = each put_uses counts.vouchers t in
    let used = each put_count counts.quotas set in
    exits_is counts.exits used
    ∙ ap (λ (u : Tables). record u { exits = (with_counts counts t).exits }) (counts_is counts.quotas set)
    ∙ ap (λ (u : Tables). record set { counts = u.counts; exits = (with_counts counts t).exits }) (sym (exits_is counts.exits used))

-- the tables with the counts: only the vouchers' counters and what is spent of them, and the counts of quotas and their exits differ
pub counted_is : (counts : CountRows) (t : Tables) → with_counts counts t ≡ record t { vouchers = (with_counts counts t).vouchers; counts = (with_counts counts t).counts; exits = (with_counts counts t).exits; spents = (with_counts counts t).spents }
counted_is counts t =
    quotas_set counts t
    ∙ ap (λ (u : Tables). record u { counts = (with_counts counts t).counts; exits = (with_counts counts t).exits }) (set_is counts.vouchers t)
    ∙ ap (λ (v : Tables). record t { vouchers = v.vouchers; counts = (with_counts counts t).counts; exits = (with_counts counts t).exits; spents = v.spents }) (sym (quotas_set counts t))

-- ---- all counts that are listed stand

found_more : (id : ℕ) (y : VoucherCount) (ys : List VoucherCount) → is_some (row_at of_voucher id ys) ≡ true → is_some (row_at of_voucher id (y ∷ ys)) ≡ true
found_more id y ys e = elim (y.voucher == id) as (λ b. is_some (cond b (Some y) (row_at of_voucher id ys)) ≡ true) [
  | true ↦ refl
  | false ↦ e
]

all_more : (y : VoucherCount) (ys zs : List VoucherCount) → AllByRecursion (λ d. is_some (row_at of_voucher d.voucher ys) ≡ true) zs → AllByRecursion (λ d. is_some (row_at of_voucher d.voucher (y ∷ ys)) ≡ true) zs
all_more y ys [] h = tt
all_more y ys (z ∷ zs) h = (found_more z.voucher y ys h.0, all_more y ys zs h.1)

all_found : (ys : List VoucherCount) → AllByRecursion (λ d. is_some (row_at of_voucher d.voucher ys) ≡ true) ys
all_found [] = tt
all_found (y ∷ ys) =
    let self : (y.voucher == y.voucher) ≡ true = grind (arith, nat_tests) in
    (ap (λ b. is_some (cond b (Some y) (row_at of_voucher y.voucher ys))) self, all_more y ys ys (all_found ys))

all_some : {A : Type 0} (P : A → Type 0) (p : A → Bool) (xs : List A) → AllByRecursion P xs → AllByRecursion P (filter p xs)
all_some P p [] h = tt
all_some P p (x ∷ xs) h = elim (p x) as (λ b. AllByRecursion P (cond b (x ∷ filter p xs) (filter p xs))) [
  | true ↦ (h.0, all_some P p xs h.1)
  | false ↦ all_some P p xs h.1
]

all_same : (f g : ℕ → Bool) → ((n : ℕ) → f n ≡ g n) → (cs : List VoucherCount) → AllByRecursion (λ d. g d.voucher ≡ true) cs → AllByRecursion (λ d. f d.voucher ≡ true) cs
all_same f g is [] h = tt
all_same f g is (c ∷ cs) h = (is c.voucher ∙ h.0, all_same f g is cs h.1)

-- ---- kept answers

listed_kept : (rowid : ℕ) (o : Option (Bor Kept)) (t : Tables) (ks : List Kept) → IsPermutation (map (λ r. r.kept) t.kept) ks → IsPermutation (map (λ r. r.kept) (with_listed rowid (kept_listed o) t).kept) (ks ++ kept_listed o)
listed_kept rowid None t ks h = subst (IsPermutation (map (λ r. r.kept) t.kept)) (sym (append-nil ks)) h
listed_kept rowid (Some k) t ks h =
    IsPermutation-trans (k.now ∷ map (λ r. r.kept) t.kept) (k.now ∷ ks) (ks ++ k.now ∷ []) (IsPermutation-cons k.now (map (λ r. r.kept) t.kept) ks h) (IsPermutation-sym (ks ++ k.now ∷ []) (k.now ∷ ks) (IsPermutation-to_front ks k.now))

past : (at : ℕ) (rows : List KeptRow) (ks : List Kept) → IsPermutation (map (λ r. r.kept) rows) ks → IsPermutation (map (λ r. r.kept) (filter (λ r. lasts at r.kept.at) rows)) (filter (λ k. lasts at k.at) ks)
past at rows ks h =
    subst (λ l. IsPermutation l (filter (λ k. lasts at k.at) ks)) (filter-map (λ k. lasts at k.at) (λ (r : KeptRow). r.kept) rows) (IsPermutation-filter (λ (k : Kept). lasts at k.at) (map (λ r. r.kept) rows) ks h)

past_twice : (at : ℕ) (ks more : List Kept) → filter (λ k. lasts at k.at) (filter (λ k. lasts at k.at) ks ++ more) ≡ with_kept at ks more
past_twice at ks more =
    filter_append (λ k. lasts at k.at) (filter (λ k. lasts at k.at) ks) more
    ∙ ap (λ l. l ++ filter (λ k. lasts at k.at) more) (filter-filter (λ (k : Kept). lasts at k.at) (λ k. lasts at k.at) (λ k e. e) ks)
    ∙ sym (filter_append (λ k. lasts at k.at) ks more)

-- ---- the whole commit

none_left : (rows : List ShopRow) → filter (λ r. not (1 == 1)) rows ≡ []
none_left [] = refl
none_left (r ∷ rows) = none_left rows

pub all_but_kept : (at rowid : ℕ) (ks : List Kept) (t : Tables) → without_past at (with_listed rowid ks (without_past at t)) ≡ record t { kept = (without_past at (with_listed rowid ks (without_past at t))).kept }
all_but_kept at rowid [] t = refl
all_but_kept at rowid (k ∷ ks) t = refl

module _ (old shop : ShopRow) (changes : Changed) (counts : CountRows) (from at : ℕ) (o : Option (Bor Kept)) (moment : shop.moment ≡ at) (number : shop.next ≡ changes.next) (rising : AllByRecursion IsRising changes.list) (first : puts_come_first false changes.list ≡ true) (t : Tables) (s : State) (ks : List Kept)
    (right : counts ≡ counts_after s (changes_applied changes at s)) (h : Stand old t s ks) (free : IsFree from t) where
  abbrev start : Tables
  start = put_shop shop t

  abbrev mid : Tables
  mid = changes_made changes.list from start

  abbrev full : Tables
  full = with_counts counts mid

  abbrev end : Tables
  end = commit_made shop changes.list counts from (kept_listed o) at t

  abbrev after : State
  after = changes_applied changes at s

  start_free : IsFree from start
  start_free = record { quota_items = free.quota_items; quota_variations = free.quota_variations; list_items = free.list_items; kept = free.kept }

  turned : AreTurned changes.list from (next_after changes.list from) start mid
  turned = all_turned changes.list from start start_free

  lists : AreOrdered after.lists × AreRowsOf after.lists (rows_of mid)
  lists = follows changes.list from (next_after changes.list from) start mid turned rising s.lists h.ordered h.rows

  as_was : Stays start mid
  as_was = stays changes.list from (next_after changes.list from) start mid turned

  full_is : full ≡ record mid { vouchers = full.vouchers; counts = full.counts; exits = full.exits; spents = full.spents }
  full_is = counted_is counts mid

  end_is : end ≡ record full { kept = end.kept }
  end_is = all_but_kept at (next_after changes.list from) (kept_listed o) full

  vouchers_in_order : AreInOrder (λ v. v.id) s.lists.vouchers
  vouchers_in_order = h.ordered.ids.vouchers

  -- the counts of vouchers after the changes
  followed : (last : Bool) × Counted counts.vouchers (voucher_counts s) after.lists.vouchers last mid
  followed = counts_follow counts.vouchers (voucher_counts s) changes.list from (next_after changes.list from) start mid turned false first s.lists (record {
    redeemed = map head_of_redeemed (voucher_counts s);
    spents = map head_of_spent (voucher_counts s);
    all_stand = all_start of_redeemed head_of_redeemed (λ w. refl) s;
    redeemed_kept = counting_starts of_redeemed head_of_redeemed (λ w. refl) counts.vouchers s vouchers_in_order;
    spents_kept = counting_starts of_spent head_of_spent (λ w. refl) counts.vouchers s vouchers_in_order;
    redeemed_same = h.redeemed;
    spents_same = h.spents;
  })

  redeemed_full : IsPermutation (redeemed_in full) (map head_of_redeemed (voucher_counts after))
  redeemed_full =
      let it = followed.1 in
      let kept = subst (λ (c : CountRows). CountsKept of_redeemed head_of_redeemed followed.0 c.vouchers (voucher_counts s) after.lists.vouchers it.redeemed) right it.redeemed_kept in
      let is : with_all of_redeemed (map head_of_redeemed (counts_after s after).vouchers) it.redeemed ≡ map head_of_redeemed (voucher_counts after) =
      vouchers_counted of_redeemed head_of_redeemed (λ w. refl) followed.0 s after it.redeemed vouchers_in_order lists.0.ids.vouchers kept in
      let stand : AllByRecursion (λ d. is_some (row_at of_redeemed d.voucher it.redeemed) ≡ true) (counts_after s after).vouchers =
      all_same (λ n. is_some (row_at of_redeemed n it.redeemed)) (λ n. is_some (row_at of_voucher n (voucher_counts after))) (λ n. it.all_stand n ∙ sym (counts_found after n)) (counts_after s after).vouchers
      (all_some (λ d. is_some (row_at of_voucher d.voucher (voucher_counts after)) ≡ true) _ (voucher_counts after) (all_found (voucher_counts after))) in
      let put : IsPermutation (redeemed_in (each put_uses counts.vouchers mid)) (with_all of_redeemed (map head_of_redeemed counts.vouchers) it.redeemed) =
      all_set counts.vouchers mid it.redeemed kept.in_order (subst (λ (c : CountRows). AllByRecursion (λ d. is_some (row_at of_redeemed d.voucher it.redeemed) ≡ true) c.vouchers) (sym right) stand) it.redeemed_same in
      let here : IsPermutation (redeemed_in (each put_uses counts.vouchers mid)) (map head_of_redeemed (voucher_counts after)) =
      subst (IsPermutation (redeemed_in (each put_uses counts.vouchers mid))) (ap (λ (c : CountRows). with_all of_redeemed (map head_of_redeemed c.vouchers) it.redeemed) right ∙ is) put in
      subst (λ (l : List VoucherRow). IsPermutation (map count_of l) (map head_of_redeemed (voucher_counts after))) (sym (ap (λ (u : Tables). u.vouchers) (quotas_set counts mid))) here

  spents_full : IsPermutation full.spents (map head_of_spent (voucher_counts after))
  spents_full =
      let it = followed.1 in
      let kept = subst (λ (c : CountRows). CountsKept of_spent head_of_spent followed.0 c.vouchers (voucher_counts s) after.lists.vouchers it.spents) right it.spents_kept in
      let is = vouchers_counted of_spent head_of_spent (λ w. refl) followed.0 s after it.spents vouchers_in_order lists.0.ids.vouchers kept in
      let put = all_put_spents counts.vouchers mid it.spents kept.in_order it.spents_same in
      let here : IsPermutation (each put_uses counts.vouchers mid).spents (map head_of_spent (voucher_counts after)) =
      subst (IsPermutation (each put_uses counts.vouchers mid).spents) (ap (λ (c : CountRows). with_all of_spent (map head_of_spent c.vouchers) it.spents) right ∙ is) put in
      subst (λ (l : List SpentRow). IsPermutation l (map head_of_spent (voucher_counts after))) (sym (ap (λ (u : Tables). u.spents) (quotas_set counts mid))) here

  used_full : IsPermutation full.counts (map head_of_count (quota_counts after))
  used_full =
      let set = each put_uses counts.vouchers mid in
      let same : set.counts ≡ t.counts = ap (λ (u : Tables). u.counts) (set_is counts.vouchers mid) ∙ as_was.counts in
      let before = order_of_parts (λ q. q.id) (quota_count s) (λ c. c.quota) (λ q. refl) 0 s.lists.catalogue.quotas h.ordered.ids.quotas in
      let put = all_put counts.quotas set (quota_counts s) before (subst (λ l. IsPermutation l (map head_of_count (quota_counts s))) (sym same) h.used) in
      let here : IsPermutation (each put_count counts.quotas set).counts (map head_of_count (quota_counts after)) =
      subst (λ l. IsPermutation (each put_count counts.quotas set).counts (map head_of_count l)) (ap (λ (c : CountRows). with_all (λ c. c.quota) c.quotas (quota_counts s)) right ∙ quotas_counted changes.list s after refl h.ordered.ids.quotas lists.0.ids.quotas) put in
      subst (λ (l : List CountRow). IsPermutation l (map head_of_count (quota_counts after))) (sym (ap (λ (u : Tables). u.counts) (exits_is counts.exits (each put_count counts.quotas set)))) here

  exits_full : IsPermutation full.exits (map head_of_exit (quota_counts after))
  exits_full =
      let set = each put_uses counts.vouchers mid in
      let used = each put_count counts.quotas set in
      let same : used.exits ≡ t.exits = ap (λ (u : Tables). u.exits) (counts_is counts.quotas set) ∙ ap (λ (u : Tables). u.exits) (set_is counts.vouchers mid) ∙ as_was.exits in
      let before = map head_of_exit (quota_counts s) in
      let put = all_put_exits counts.exits used before (exits_in_order s h.ordered.ids.quotas) (subst (λ l. IsPermutation l before) (sym same) h.exits) in
      subst (IsPermutation full.exits) (ap (λ (c : CountRows). with_all of_exit (map head_of_exit c.exits) before) right ∙ exits_counted changes.list s after refl h.ordered.ids.quotas lists.0.ids.quotas) put

  rows_full : AreRowsOf after.lists (rows_of full)
  rows_full =
      let same : map (λ (r : VoucherRow). r.voucher) full.vouchers ≡ map (λ (r : VoucherRow). r.voucher) mid.vouchers =
      ap (λ (u : Tables). map (λ (r : VoucherRow). r.voucher) u.vouchers) (quotas_set counts mid) ∙ set_vouchers_same counts.vouchers mid in
      subst (λ (u : Tables). AreRowsOf after.lists (rows_of u)) (sym full_is) (set_vouchers lists.1 (subst (λ l. IsPermutation l (map head_of_voucher after.lists.vouchers)) (sym same) lists.1.vouchers))

  kept_end : IsPermutation (map (λ r. r.kept) end.kept) (with_kept at ks (kept_listed o))
  kept_end =
      let same : full.kept ≡ t.kept = ap (λ (u : Tables). u.kept) full_is ∙ as_was.kept in
      let one = past at full.kept ks (subst (λ (l : List KeptRow). IsPermutation (map (λ r. r.kept) l) ks) (sym same) h.kept) in
      let two = listed_kept (next_after changes.list from) o (without_past at full) (filter (λ k. lasts at k.at) ks) one in
      let three = past at (with_listed (next_after changes.list from) (kept_listed o) (without_past at full)).kept _ two in
      subst (IsPermutation (map (λ r. r.kept) end.kept)) (past_twice at ks (kept_listed o)) three

  shop_end : end.shop ≡ shop ∷ []
  shop_end =
      ap (λ (u : Tables). u.shop) end_is
      ∙ ap (λ (u : Tables). u.shop) full_is
      ∙ as_was.shop
      ∙ ap (λ (l : List ShopRow). shop ∷ l) (none_left t.shop)

  -- the changes, the counts that differ and the answer, all at the moment, and what is past is gone
  pub carried : Stand shop end after (with_kept at ks (kept_listed o))
  carried = record {
    shop_is = shop_end;
    moment = moment;
    next = number;
    rows = subst (λ (u : Tables). AreRowsOf after.lists (rows_of u)) (sym end_is) rows_full;
    ordered = lists.0;
    used = subst (λ (u : Tables). IsPermutation u.counts (map head_of_count (quota_counts after))) (sym end_is) used_full;
    exits = subst (λ (u : Tables). IsPermutation u.exits (map head_of_exit (quota_counts after))) (sym end_is) exits_full;
    redeemed = subst (λ (u : Tables). IsPermutation (redeemed_in u) (map head_of_redeemed (voucher_counts after))) (sym end_is) redeemed_full;
    spents = subst (λ (u : Tables). IsPermutation u.spents (map head_of_spent (voucher_counts after))) (sym end_is) spents_full;
    kept = kept_end;
  }

-- ---- row numbers after a commit

pub free_counted : (counts : CountRows) (n : ℕ) (t : Tables) → IsFree n t → IsFree n (with_counts counts t)
free_counted counts n t h = subst (IsFree n) (sym (counted_is counts t)) (record { quota_items = h.quota_items; quota_variations = h.quota_variations; list_items = h.list_items; kept = h.kept })

pub free_past : (at n : ℕ) (t : Tables) → IsFree n t → IsFree n (without_past at t)
free_past at n t h = record { quota_items = h.quota_items; quota_variations = h.quota_variations; list_items = h.list_items; kept = below_fewer (λ (r : KeptRow). r.rowid) n (λ r. lasts at r.kept.at) t.kept h.kept }

pub free_listed : (n : ℕ) (ks : List Kept) (t : Tables) → IsFree n t → IsFree (n + 1) (with_listed n ks t)
free_listed n [] t h = free_later n (n + 1) t (omega arith) h
free_listed n (k ∷ ks) t h = record {
  quota_items = below_later n (n + 1) _ (omega arith) h.quota_items;
  quota_variations = below_later n (n + 1) _ (omega arith) h.quota_variations;
  list_items = below_later n (n + 1) _ (omega arith) h.list_items;
  kept = below_new n _ h.kept;
}

pub free_shop : (shop : ShopRow) (n : ℕ) (t : Tables) → IsFree n t → IsFree n (put_shop shop t)
free_shop shop n t h = record { quota_items = h.quota_items; quota_variations = h.quota_variations; list_items = h.list_items; kept = h.kept }

pub free_made : (changes : List Change) (from : ℕ) (t : Tables) → IsFree from t → IsFree (next_after changes from) (changes_made changes from t)
free_made changes from t h = still_free changes from (next_after changes from) t (changes_made changes from t) (all_turned changes from t h) h

pub free_done : (shop : ShopRow) (changes : List Change) (counts : CountRows) (from : ℕ) (ks : List Kept) (at : ℕ) (t : Tables) → IsFree from t → IsFree (next_after changes from + 1) (commit_made shop changes counts from ks at t)
free_done shop changes counts from ks at t h =
    free_past at _ _ (free_listed (next_after changes from) ks _ (free_past at _ _ (free_counted counts _ _ (free_made changes from (put_shop shop t) (free_shop shop from t h)))))

-- a commit leaves the tokens as they are
pub tokens_stay : (shop : ShopRow) (changes : List Change) (counts : CountRows) (from at : ℕ) (ks : List Kept) (t : Tables) → IsFree from t → (commit_made shop changes counts from ks at t).tokens ≡ t.tokens
tokens_stay shop changes counts from at ks t h =
    let full = with_counts counts (changes_made changes from (put_shop shop t)) in
    ap (λ (u : Tables). u.tokens) (all_but_kept at (next_after changes from) ks full)
    ∙ ap (λ (u : Tables). u.tokens) (counted_is counts (changes_made changes from (put_shop shop t)))
    ∙ (stays changes from (next_after changes from) (put_shop shop t) (changes_made changes from (put_shop shop t)) (all_turned changes from (put_shop shop t) (free_shop shop from t h))).tokens

-- and the shop's row is the one that it puts
pub shop_put : (shop : ShopRow) (changes : List Change) (counts : CountRows) (from at : ℕ) (ks : List Kept) (t : Tables) → IsFree from t → (commit_made shop changes counts from ks at t).shop ≡ shop ∷ []
shop_put shop changes counts from at ks t h =
    let full = with_counts counts (changes_made changes from (put_shop shop t)) in
    ap (λ (u : Tables). u.shop) (all_but_kept at (next_after changes from) ks full)
    ∙ ap (λ (u : Tables). u.shop) (counted_is counts (changes_made changes from (put_shop shop t)))
    ∙ (stays changes from (next_after changes from) (put_shop shop t) (changes_made changes from (put_shop shop t)) (all_turned changes from (put_shop shop t) (free_shop shop from t h))).shop
    ∙ ap (λ (l : List ShopRow). shop ∷ l) (none_left t.shop)
