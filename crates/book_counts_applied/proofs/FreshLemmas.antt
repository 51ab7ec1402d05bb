-- What rows count, one after another.
use Rattle.std.proofs.Common.{◌≡◌, ℕ, ◌+◌, ◌*◌, ◌-◌, ◌<◌, ◌≤◌, Bool, true, false, ◌&&◌, List, [], ◌∷◌, ◌++◌, length, get_or, take, drop, map, None, Some, refl, sym, ap, ◌∙◌, sum_by, arith}
use Rattle.std.specs.List.{AllByRecursion}
use Rattle.std.specs.Prelude.{if◌then◌else◌}
use Rattle.std.proofs.lemmas.List.{drop_all, drop_more, take_more}
use Rattle.std.proofs.lemmas.List.Sums.{sum_by-cons}
use Rattle.model_catalogue.specs.declared.rows.Quota.{Quota}
use Rattle.model_rows.specs.declared.rows.CartPos.{CartPos}
use Rattle.model_rows.specs.declared.rows.OrderPos.{OrderPos}
use Rattle.model_rows.specs.declared.rows.Status.{Status}
use Rattle.model_rows.specs.declared.rows.Usage.{Usage}
use Rattle.model_rows.specs.declared.rows.Voucher.{Voucher}
use Rattle.model_rows.specs.declared.rows.Waiting.{Waiting}
use Rattle.model_rows.specs.Conditions.{blocks, hits, is_live_voucher, is_paid, is_pending}
use Rattle.model_rows.specs.Kept.{IsKept}
use Rattle.model_rows.specs.Lists.{Lists}
use Rattle.model_rows.specs.Usage.{blocked_by, cart_counts, exit_counts, position_counts, redeemed, usage_of, waits_for}
use Rattle.book_usage.specs.Shares.{blocked_share, cart_share, exited_share, status_share, waiting_share}
use Rattle.book_counts_over_time.specs.UsageUpdates.{block_shift, map_beside, count_moved, only}
use Rattle.book_counts_over_time.proofs.OfProducts.{either}
use Rattle.book_counts_over_time.proofs.UsageUpdateLemmas.{map_beside_map}
use Rattle.book_counts_over_time.proofs.TouchedLemmas.{beside_alike, beside_beside, beside_same}
use Rattle.book_counts_applied.specs.Fresh.{after_each, position_comes, cart_comes, entry_comes, voucher_comes}
use Rattle.book_counts_applied.specs.Settled.{nothing, AreSmall}

-- one more row, and those behind it
module _ {R : Type 0} (come : R → Quota → Usage → Usage) (quotas : List Quota) where
  pub each_more : (row : R) (rows : List R) (us more : List Usage) → more ≡ map_beside (come row) quotas us → map_beside (after_each come rows) quotas more ≡ map_beside (after_each come (row ∷ rows)) quotas us
  each_more row rows us more is = ap (map_beside (after_each come rows) quotas) is ∙ beside_beside (come row) (after_each come rows) (after_each come (row ∷ rows)) quotas us (λ q u. refl)

  pub each_none : (us : List Usage) → length us ≡ length quotas → map_beside (after_each come []) quotas us ≡ us
  each_none us len = beside_same (after_each come []) quotas us len (λ q u. refl)

  -- the same of rows of which some were before
  pub rest_more : (rows : List R) (i : ℕ) (row : R) (us more : List Usage) → i < length rows → row ≡ get_or rows i row → more ≡ map_beside (come row) quotas us → map_beside (after_each come (drop (i + 1) rows)) quotas more ≡ map_beside (after_each come (drop i rows)) quotas us
  rest_more rows i row us more lt row_is is =
      each_more row (drop (i + 1) rows) us more is
      ∙ ap (λ (l : List R). map_beside (after_each come l) quotas us) (sym (drop_more rows i row lt ∙ ap (λ (r : R). r ∷ drop (i + 1) rows) (sym row_is)))

  pub rest_none : (rows : List R) (i : ℕ) (us : List Usage) → length rows ≤ i → length us ≡ length quotas → map_beside (after_each come (drop i rows)) quotas us ≡ us
  rest_none rows i us le len = ap (λ (l : List R). map_beside (after_each come l) quotas us) (drop_all i rows le) ∙ each_none us len

-- values that are kept of rows, one after another
module _ {R U : Type 0} (f : R → U) where
  map_push : (rows : List R) (row : R) → map f (rows ++ row ∷ []) ≡ map f rows ++ f row ∷ []
  map_push [] row = refl
  map_push (r ∷ rs) row = ap (λ (l : List U). f r ∷ l) (map_push rs row)

  pub kept_more : (rows : List R) (i : ℕ) (row : R) (value : U) (us more : List U) → i < length rows → row ≡ get_or rows i row → value ≡ f row → us ≡ map f (take i rows) → more ≡ us ++ value ∷ [] → more ≡ map f (take (i + 1) rows)
  kept_more rows i row value us more lt row_is value_is us_is is =
      is ∙ ap (λ (l : List U). l ++ value ∷ []) us_is ∙ ap (λ (x : U). map f (take i rows) ++ x ∷ []) (value_is ∙ ap f row_is)
      ∙ sym (map_push (take i rows) (get_or rows i row)) ∙ ap (map f) (sym (take_more rows i row lt))

pub one_longer : {U : Type 0} (us more : List U) (value : U) (n : ℕ) → more ≡ us ++ value ∷ [] → length us ≡ n → length more ≡ n + 1
one_longer us more value n is len = ap length is ∙ longer us ∙ ap (λ (k : ℕ). k + 1) len
  where
    longer : (l : List _) → length (l ++ value ∷ []) ≡ length l + 1
    longer [] = refl
    longer (x ∷ xs) = omega (arith, longer xs)

-- a voucher touches the quotas that it hits
blocked_none : (at : ℕ) (quota : Quota) (spent : ℕ) (voucher : Voucher) → hits quota voucher ≡ false → blocked_share at quota spent (Some voucher) ≡ 0
unfolding blocked_share
blocked_none at quota spent voucher none = by_tests voucher.block_quota (is_live_voucher at voucher) (hits quota voucher) none
  where
    by_tests : (a b d : Bool) → d ≡ false → ◌≡◌ {A = ℕ} (if a && b && d then voucher.max_usages - spent else 0) 0
    by_tests true true true h = absurd (cc h)
    by_tests true true false h = refl
    by_tests true false d h = refl
    by_tests false b d h = refl

no_block : (at : ℕ) (quota : Quota) (spent : ℕ) → blocked_share at quota spent None ≡ 0
unfolding blocked_share
no_block at quota spent = refl

pub voucher_comes_one : (at spent : ℕ) (voucher : Voucher) (quotas : List Quota) (us : List Usage) → map_beside (only (λ q. hits q voucher) (block_shift at spent (Some voucher) None)) quotas us ≡ map_beside (block_shift at spent (Some voucher) None) quotas us
voucher_comes_one at spent voucher quotas us =
    beside_alike (only (λ q. hits q voucher) (block_shift at spent (Some voucher) None)) (block_shift at spent (Some voucher) None) quotas us (λ q u. either (hits q voucher) (block_shift at spent (Some voucher) None q u) u (still q u))
  where
    still : (q : Quota) (u : Usage) → hits q voucher ≡ false → block_shift at spent (Some voucher) None q u ≡ u
    still q u none =
        let same : count_moved u.blocked (blocked_share at q spent (Some voucher)) (blocked_share at q spent None) ≡ u.blocked = omega (arith, blocked_none at q spent voucher none, no_block at q spent) in
        ap (λ (n : ℕ). record u { blocked = n }) same

one_few : (lists : Lists) (at : ℕ) (quota : Quota) (v : Voucher) → v.max_usages ≤ 4294967295 → blocked_by lists at quota v ≤ 4294967295
unfolding blocked_by
one_few lists at quota v le = by_test (blocks at quota v)
  where
    by_test : (b : Bool) → (if b then v.max_usages - redeemed v.id lists else 0) ≤ 4294967295
    by_test true = omega (arith, le)
    by_test false = omega arith

-- what vouchers block is no more than what they may block
blocked_few : (lists : Lists) (at : ℕ) (quota : Quota) (vs : List Voucher) → AllByRecursion (λ v. v.max_usages ≤ 4294967295) vs → sum_by (blocked_by lists at quota) vs ≤ length vs * 4294967295
blocked_few lists at quota [] h = omega arith
blocked_few lists at quota (v ∷ vs) h = omega (arith, blocked_few lists at quota vs h.1, sum_by-cons (blocked_by lists at quota) v vs, one_few lists at quota v h.0)

at_most_one : (b : Bool) → (if b then 1 else 0) ≤ 1
at_most_one true = omega arith
at_most_one false = omega arith

-- what rows count, added up
module _ (lists : Lists) (at : ℕ) (q : Quota) where
  abbrev of_status : (Status → Bool) → OrderPos → ℕ
  of_status test p = status_share test lists q (Some p)

  abbrev of_exit : OrderPos → ℕ
  of_exit p = exited_share lists q (Some p)

  abbrev of_cart : CartPos → ℕ
  of_cart c = cart_share lists at q (Some c)

  abbrev of_entry : Waiting → ℕ
  of_entry w = waiting_share q (Some w)

  status_one : (test : Status → Bool) (p : OrderPos) → of_status test p ≤ 1
  unfolding status_share
  status_one test p = at_most_one (position_counts test lists q p)

  no_status : (test : Status → Bool) → status_share test lists q None ≡ 0
  unfolding status_share
  no_status test = refl

  exit_one : (p : OrderPos) → of_exit p ≤ 1
  unfolding exited_share
  exit_one p = at_most_one (exit_counts lists q p)

  no_exit : exited_share lists q None ≡ 0
  unfolding exited_share
  no_exit = refl

  cart_one : (c : CartPos) → of_cart c ≤ 1
  unfolding cart_share
  cart_one c = at_most_one (cart_counts lists at q c)

  no_cart : cart_share lists at q None ≡ 0
  unfolding cart_share
  no_cart = refl

  entry_one : (w : Waiting) → of_entry w ≤ 1
  unfolding waiting_share
  entry_one w = at_most_one (waits_for q w)

  no_entry : waiting_share q None ≡ 0
  unfolding waiting_share
  no_entry = refl

  positions_sum : (rows : List OrderPos) (u : Usage) → u.paid + length rows ≤ 18446744073709551615 → u.pending + length rows ≤ 18446744073709551615 → u.exited + length rows ≤ 18446744073709551615
      → after_each (position_comes lists) rows q u ≡ record u { paid = u.paid + sum_by (of_status is_paid) rows; pending = u.pending + sum_by (of_status is_pending) rows; exited = u.exited + sum_by of_exit rows }
  positions_sum [] u a b e =
      let paid : u.paid ≡ u.paid + sum_by (of_status is_paid) [] = omega arith in
      let pending : u.pending ≡ u.pending + sum_by (of_status is_pending) [] = omega arith in
      let exited : u.exited ≡ u.exited + sum_by of_exit [] = omega arith in
      λ i. record u { paid = paid i; pending = pending i; exited = exited i }
  positions_sum (p ∷ ps) u a b e =
      let v : Usage = position_comes lists p q u in
      let paid_is : v.paid ≡ u.paid + of_status is_paid p = omega (arith, a, status_one is_paid p, no_status is_paid) in
      let pending_is : v.pending ≡ u.pending + of_status is_pending p = omega (arith, b, status_one is_pending p, no_status is_pending) in
      let exited_is : v.exited ≡ u.exited + of_exit p = omega (arith, e, exit_one p, no_exit) in
      let paid : v.paid + sum_by (of_status is_paid) ps ≡ u.paid + sum_by (of_status is_paid) (p ∷ ps) = omega (arith, paid_is, sum_by-cons (of_status is_paid) p ps) in
      let pending : v.pending + sum_by (of_status is_pending) ps ≡ u.pending + sum_by (of_status is_pending) (p ∷ ps) = omega (arith, pending_is, sum_by-cons (of_status is_pending) p ps) in
      let exited : v.exited + sum_by of_exit ps ≡ u.exited + sum_by of_exit (p ∷ ps) = omega (arith, exited_is, sum_by-cons of_exit p ps) in
      positions_sum ps v (omega (arith, paid_is, a, status_one is_paid p)) (omega (arith, pending_is, b, status_one is_pending p)) (omega (arith, exited_is, e, exit_one p)) ∙ (λ i. record u { paid = paid i; pending = pending i; exited = exited i })

  carts_sum : (rows : List CartPos) (u : Usage) → u.carts + length rows ≤ 18446744073709551615 → after_each (cart_comes lists at) rows q u ≡ record u { carts = u.carts + sum_by of_cart rows }
  carts_sum [] u a =
      let carts : u.carts ≡ u.carts + sum_by of_cart [] = omega arith in
      λ i. record u { carts = carts i }
  carts_sum (c ∷ cs) u a =
      let v : Usage = cart_comes lists at c q u in
      let is : v.carts ≡ u.carts + of_cart c = omega (arith, a, cart_one c, no_cart) in
      let carts : v.carts + sum_by of_cart cs ≡ u.carts + sum_by of_cart (c ∷ cs) = omega (arith, is, sum_by-cons of_cart c cs) in
      carts_sum cs v (omega (arith, is, a, cart_one c)) ∙ (λ i. record u { carts = carts i })

  entries_sum : (rows : List Waiting) (u : Usage) → u.waiting + length rows ≤ 18446744073709551615 → after_each entry_comes rows q u ≡ record u { waiting = u.waiting + sum_by of_entry rows }
  entries_sum [] u a =
      let waiting : u.waiting ≡ u.waiting + sum_by of_entry [] = omega arith in
      λ i. record u { waiting = waiting i }
  entries_sum (w ∷ ws) u a =
      let v : Usage = entry_comes w q u in
      let is : v.waiting ≡ u.waiting + of_entry w = omega (arith, a, entry_one w, no_entry) in
      let waiting : v.waiting + sum_by of_entry ws ≡ u.waiting + sum_by of_entry (w ∷ ws) = omega (arith, is, sum_by-cons of_entry w ws) in
      entries_sum ws v (omega (arith, is, a, entry_one w)) ∙ (λ i. record u { waiting = waiting i })

  block_is : (v : Voucher) → blocked_share at q (redeemed v.id lists) (Some v) ≡ blocked_by lists at q v
  unfolding blocked_share blocked_by
  block_is v = refl

  vouchers_sum : (rows : List Voucher) (u : Usage) → u.blocked + sum_by (blocked_by lists at q) rows ≤ 18446744073709551615 → after_each (voucher_comes lists at) rows q u ≡ record u { blocked = u.blocked + sum_by (blocked_by lists at q) rows }
  vouchers_sum [] u a =
      let blocked : u.blocked ≡ u.blocked + sum_by (blocked_by lists at q) [] = omega arith in
      λ i. record u { blocked = blocked i }
  vouchers_sum (v ∷ vs) u a =
      let w : Usage = voucher_comes lists at v q u in
      let is : w.blocked ≡ u.blocked + blocked_by lists at q v = omega (arith, a, block_is v, no_block at q (redeemed v.id lists), sum_by-cons (blocked_by lists at q) v vs) in
      let blocked : w.blocked + sum_by (blocked_by lists at q) vs ≡ u.blocked + sum_by (blocked_by lists at q) (v ∷ vs) = omega (arith, is, sum_by-cons (blocked_by lists at q) v vs) in
      vouchers_sum vs w (omega (arith, blocked, a)) ∙ (λ i. record u { blocked = blocked i })

  abbrev all_counted : Usage
  all_counted = record {
    paid = sum_by (of_status is_paid) lists.positions;
    pending = sum_by (of_status is_pending) lists.positions;
    blocked = sum_by (blocked_by lists at q) lists.vouchers;
    carts = sum_by of_cart lists.carts;
    waiting = sum_by of_entry lists.waiting;
    exited = sum_by of_exit lists.positions;
  }

  counted_is : all_counted ≡ usage_of lists at q
  unfolding status_share exited_share cart_share waiting_share usage_of
  counted_is = refl

  from_none : (a b c d e f : ℕ) → ◌≡◌ {A = Usage} (record { paid = 0 + a; pending = 0 + b; blocked = 0 + c; carts = 0 + d; waiting = 0 + e; exited = 0 + f }) (record { paid = a; pending = b; blocked = c; carts = d; waiting = e; exited = f })
  from_none a b c d e f =
      let none : (n : ℕ) → 0 + n ≡ n = λ n. omega arith in
      λ i. record { paid = none a i; pending = none b i; blocked = none c i; carts = none d i; waiting = none e i; exited = none f i }

  -- all rows, one after another, are the usage
  all_come : IsKept 4294967296 lists → AreSmall lists
      → after_each entry_comes lists.waiting q (after_each (cart_comes lists at) lists.carts q (after_each (voucher_comes lists at) lists.vouchers q (after_each (position_comes lists) lists.positions q nothing))) ≡ usage_of lists at q
  all_come kept small =
      let u : Usage = record nothing { paid = 0 + sum_by (of_status is_paid) lists.positions; pending = 0 + sum_by (of_status is_pending) lists.positions; exited = 0 + sum_by of_exit lists.positions } in
      let v : Usage = record u { blocked = 0 + sum_by (blocked_by lists at q) lists.vouchers } in
      let w : Usage = record v { carts = 0 + sum_by of_cart lists.carts } in
      ap (λ (x : Usage). after_each entry_comes lists.waiting q (after_each (cart_comes lists at) lists.carts q (after_each (voucher_comes lists at) lists.vouchers q x))) (positions_sum lists.positions nothing (omega (arith, kept.positions.few)) (omega (arith, kept.positions.few)) (omega (arith, kept.positions.few)))
      ∙ ap (λ (x : Usage). after_each entry_comes lists.waiting q (after_each (cart_comes lists at) lists.carts q x)) (vouchers_sum lists.vouchers u (omega (arith, blocked_few lists at q lists.vouchers small.uses, kept.vouchers.few)))
      ∙ ap (λ (x : Usage). after_each entry_comes lists.waiting q x) (carts_sum lists.carts v (omega (arith, kept.carts.few)))
      ∙ entries_sum lists.waiting w (omega (arith, kept.waiting.few))
      ∙ from_none (sum_by (of_status is_paid) lists.positions) (sum_by (of_status is_pending) lists.positions) (sum_by (blocked_by lists at q) lists.vouchers) (sum_by of_cart lists.carts) (sum_by of_entry lists.waiting) (sum_by of_exit lists.positions)
      ∙ counted_is

-- of each quota
pub usages_come : (lists : Lists) (at : ℕ) (us ps vs cs ws : List Usage) → IsKept 4294967296 lists → AreSmall lists → us ≡ map (λ q. nothing) lists.catalogue.quotas
    → ps ≡ map_beside (after_each (position_comes lists) lists.positions) lists.catalogue.quotas us
    → vs ≡ map_beside (after_each (voucher_comes lists at) lists.vouchers) lists.catalogue.quotas ps
    → cs ≡ map_beside (after_each (cart_comes lists at) lists.carts) lists.catalogue.quotas vs
    → ws ≡ map_beside (after_each entry_comes lists.waiting) lists.catalogue.quotas cs
    → ws ≡ map (usage_of lists at) lists.catalogue.quotas
usages_come lists at us ps vs cs ws kept small us_is ps_is vs_is cs_is ws_is =
    let qs : List Quota = lists.catalogue.quotas in
    let f : Quota → Usage = λ q. after_each (position_comes lists) lists.positions q nothing in
    let g : Quota → Usage = λ q. after_each (voucher_comes lists at) lists.vouchers q (f q) in
    let h : Quota → Usage = λ q. after_each (cart_comes lists at) lists.carts q (g q) in
    let p : ps ≡ map f qs = ps_is ∙ ap (map_beside (after_each (position_comes lists) lists.positions) qs) us_is ∙ map_beside_map (after_each (position_comes lists) lists.positions) (λ q. nothing) f qs (λ q. refl) in
    let v : vs ≡ map g qs = vs_is ∙ ap (map_beside (after_each (voucher_comes lists at) lists.vouchers) qs) p ∙ map_beside_map (after_each (voucher_comes lists at) lists.vouchers) f g qs (λ q. refl) in
    let c : cs ≡ map h qs = cs_is ∙ ap (map_beside (after_each (cart_comes lists at) lists.carts) qs) v ∙ map_beside_map (after_each (cart_comes lists at) lists.carts) g h qs (λ q. refl) in
    ws_is ∙ ap (map_beside (after_each entry_comes lists.waiting) qs) c ∙ map_beside_map (after_each entry_comes lists.waiting) h (usage_of lists at) qs (λ q. all_come lists at q kept small)
