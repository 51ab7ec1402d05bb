-- Time alone raises no usage.
use Rattle.std.proofs.Common.{◌≡◌, ℕ, ◌+◌, ◌-◌, ◌≤◌, Bool, true, false, not, ◌&&◌, eqb, leb, List, [], ◌∷◌, Option, Some, None, refl, sym, ap, ◌∙◌, subst, count_by, sum_by, arith}
use Rattle.std.specs.Prelude.{if◌then◌else◌}
use Rattle.std.specs.List.{AllByRecursion}
use Rattle.std.proofs.lemmas.Bool.Decides.{nat_tests}
use Rattle.std.proofs.lemmas.List.Sums.{sum_by-cons, sum_by-le-sum_by}
use Rattle.base_tables.specs.Tables.{row_at, InOrderFrom, AreInOrder}
use Rattle.base_tables.proofs.Edits.{row_at_above}
use Rattle.model_catalogue.specs.declared.rows.Quota.{Quota}
use Rattle.model_catalogue.specs.Member.{is_in}
use Rattle.model_rows.specs.declared.rows.Voucher.{Voucher}
use Rattle.model_rows.specs.declared.rows.CartPos.{CartPos}
use Rattle.model_rows.specs.Conditions.{is_live_voucher, is_live_cart, has_not_ended, hits, blocks, names, holds}
use Rattle.model_rows.specs.Lists.{Lists}
use Rattle.model_rows.specs.Usage.{redeemed, blocked_by, blocks_if, is_covered_by, cart_counts, usage_of}
use Rattle.model_rows.specs.Total.{total}
use Rattle.model_rows.specs.Headroom.{held, HasHeadroom, AllHaveHeadroom}

-- sums of terms that add up
pub sum_by_split : {X : Type 0} (f g h : X → ℕ) (xs : List X) → ((x : X) → f x + g x ≡ h x) → sum_by f xs + sum_by g xs ≡ sum_by h xs
sum_by_split f g h [] e = omega arith
sum_by_split f g h (x ∷ xs) e = omega (arith, e x, sum_by_split f g h xs e, sum_by-cons f x xs, sum_by-cons g x xs, sum_by-cons h x xs)

pub same_sums : {X : Type 0} (f g : X → ℕ) (xs : List X) → ((x : X) → f x ≡ g x) → sum_by f xs ≡ sum_by g xs
same_sums f g [] e = refl
same_sums f g (x ∷ xs) e = omega (arith, e x, same_sums f g xs e, sum_by-cons f x xs, sum_by-cons g x xs)

abbrev pub one : Bool → ℕ
one b = if b then 1 else 0

pub eqb_flip : (a b : ℕ) → eqb a b ≡ eqb b a
eqb_flip a b = grind (arith, nat_tests)

-- what a test that is gated adds up to
none_pass : {X : Type 0} (xs : List X) → sum_by (λ (x : X). 0) xs ≡ 0
none_pass [] = refl
none_pass {X} (x ∷ xs) = omega (arith, sum_by-cons (λ (y : X). 0) x xs, none_pass xs)

pub gated : {X : Type 0} (b : Bool) (p : X → Bool) (xs : List X) → count_by (λ x. b && p x) xs ≡ (if b then count_by p xs else 0)
gated true p xs = refl
gated false p xs = none_pass xs

module _ (lists : Lists) (quota : Quota) where
  abbrev with_vouchers : List Voucher → Lists
  with_vouchers vouchers = record lists { vouchers = vouchers }

  -- blocks places of the quota while it is live
  abbrev may_block : Voucher → Bool
  may_block voucher = voucher.block_quota && hits quota voucher

  abbrev may_if : Option Voucher → Bool
  may_if None = false
  may_if (Some voucher) = may_block voucher

  abbrev is_held_by : List Voucher → Option ℕ → Bool
  is_held_by vouchers None = false
  is_held_by vouchers (Some id) = may_if (row_at (λ r. r.id) id vouchers)

  module _ (at : ℕ) where
    -- live, and of the quota
    abbrev is_here : CartPos → Bool
    is_here cart = is_live_cart at cart && is_in quota cart.product

    abbrev claims : Voucher → CartPos → Bool
    claims voucher cart = is_here cart && names voucher.id cart.voucher

    -- what the vouchers and the cart positions take that depend on the moment
    abbrev taken : List Voucher → ℕ
    taken vouchers = sum_by (blocked_by lists at quota) vouchers + count_by (cart_counts (with_vouchers vouchers) at quota) lists.carts

    abbrev is_free_here : List Voucher → CartPos → Bool
    is_free_here vouchers cart = is_here cart && not (is_held_by vouchers cart.voucher)

    abbrev weight_by : Bool → Bool → Voucher → ℕ
    weight_by false live voucher = 0
    weight_by true true voucher = voucher.max_usages - redeemed voucher.id lists
    weight_by true false voucher = count_by (claims voucher) lists.carts

    -- while a voucher is live, it takes what it blocks, and then what its cart positions take
    abbrev weight : Voucher → ℕ
    weight voucher = weight_by (may_block voucher) (is_live_voucher at voucher) voucher

    choose : (b : Bool) (voucher : Voucher) (found : Option Voucher) → blocks_if at quota (if b then Some voucher else found) ≡ (if b then blocks at quota voucher else blocks_if at quota found)
    choose true voucher found = refl
    choose false voucher found = refl

    choose_may : (b : Bool) (voucher : Voucher) (found : Option Voucher) → may_if (if b then Some voucher else found) ≡ (if b then may_block voucher else may_if found)
    choose_may true voucher found = refl
    choose_may false voucher found = refl

    covered_cons : (v : Voucher) (vs : List Voucher) (name : Option ℕ) → is_covered_by (with_vouchers (v ∷ vs)) at quota name ≡ (if names v.id name then blocks at quota v else is_covered_by (with_vouchers vs) at quota name)
    covered_cons v vs None = refl
    covered_cons v vs (Some id) = choose (eqb v.id id) v (row_at (λ r. r.id) id vs) ∙ ap (λ b. if b then blocks at quota v else is_covered_by (with_vouchers vs) at quota (Some id)) (eqb_flip v.id id)

    held_cons : (v : Voucher) (vs : List Voucher) (name : Option ℕ) → is_held_by (v ∷ vs) name ≡ (if names v.id name then may_block v else is_held_by vs name)
    held_cons v vs None = refl
    held_cons v vs (Some id) = choose_may (eqb v.id id) v (row_at (λ r. r.id) id vs) ∙ ap (λ b. if b then may_block v else is_held_by vs (Some id)) (eqb_flip v.id id)

    -- the vouchers after one in order don't have its id
    apart : (v : Voucher) (vs : List Voucher) → InOrderFrom (λ r. r.id) (v.id + 1) vs → (id : ℕ) → eqb id v.id ≡ true → row_at (λ r. r.id) id vs ≡ None
    apart v vs h id e =
        let same : id ≡ v.id = grind (arith, nat_tests, e) in
        row_at_above (λ r. r.id) (v.id + 1) id vs (omega arith) h

    uncovered : (v : Voucher) (vs : List Voucher) → InOrderFrom (λ r. r.id) (v.id + 1) vs → (name : Option ℕ) → names v.id name ≡ true → is_covered_by (with_vouchers vs) at quota name ≡ false
    uncovered v vs h None e = refl
    uncovered v vs h (Some id) e = ap (blocks_if at quota) (apart v vs h id e)

    unheld : (v : Voucher) (vs : List Voucher) → InOrderFrom (λ r. r.id) (v.id + 1) vs → (name : Option ℕ) → names v.id name ≡ true → is_held_by vs name ≡ false
    unheld v vs h None e = refl
    unheld v vs h (Some id) e = ap may_if (apart v vs h id e)

    here_or : (here named now before : Bool) → (named ≡ true → before ≡ false) → one (here && not (if named then now else before)) + one (now && (here && named)) ≡ one (here && not before)
    here_or false named true before h = refl
    here_or false named false before h = refl
    here_or true true true before h = rw (h refl) refl
    here_or true true false before h = rw (h refl) refl
    here_or true false true true h = refl
    here_or true false true false h = refl
    here_or true false false true h = refl
    here_or true false false false h = refl

    carts_cons : (v : Voucher) (vs : List Voucher) → InOrderFrom (λ r. r.id) (v.id + 1) vs → count_by (cart_counts (with_vouchers (v ∷ vs)) at quota) lists.carts + (if blocks at quota v then count_by (claims v) lists.carts else 0) ≡ count_by (cart_counts (with_vouchers vs) at quota) lists.carts
    carts_cons v vs h = ap (λ n. count_by (cart_counts (with_vouchers (v ∷ vs)) at quota) lists.carts + n) (sym (gated (blocks at quota v) (claims v) lists.carts))
        ∙ sum_by_split (λ c. one (cart_counts (with_vouchers (v ∷ vs)) at quota c)) (λ c. one (blocks at quota v && claims v c)) (λ c. one (cart_counts (with_vouchers vs) at quota c)) lists.carts
        (λ c. ap (λ b. one (is_here c && not b) + one (blocks at quota v && claims v c)) (covered_cons v vs c.voucher) ∙ here_or (is_here c) (names v.id c.voucher) (blocks at quota v) (is_covered_by (with_vouchers vs) at quota c.voucher) (uncovered v vs h c.voucher))

    free_cons : (v : Voucher) (vs : List Voucher) → InOrderFrom (λ r. r.id) (v.id + 1) vs → count_by (is_free_here (v ∷ vs)) lists.carts + (if may_block v then count_by (claims v) lists.carts else 0) ≡ count_by (is_free_here vs) lists.carts
    free_cons v vs h = ap (λ n. count_by (is_free_here (v ∷ vs)) lists.carts + n) (sym (gated (may_block v) (claims v) lists.carts))
        ∙ sum_by_split (λ c. one (is_free_here (v ∷ vs) c)) (λ c. one (may_block v && claims v c)) (λ c. one (is_free_here vs c)) lists.carts
        (λ c. ap (λ b. one (is_here c && not b) + one (may_block v && claims v c)) (held_cons v vs c.voucher) ∙ here_or (is_here c) (names v.id c.voucher) (may_block v) (is_held_by vs c.voucher) (unheld v vs h c.voucher))

    balance : (block hit live : Bool) (b t u T U g claimed left : ℕ) → T + (if (block && live) && hit then claimed else 0) ≡ t → U + (if block && hit then claimed else 0) ≡ u → b + t ≡ u + g → (b + (if (block && live) && hit then left else 0)) + T ≡ U + (g + (if block && hit then (if live then left else claimed) else 0))
    balance true true true b t u T U g claimed left e f h = omega arith
    balance true true false b t u T U g claimed left e f h = omega arith
    balance true false true b t u T U g claimed left e f h = omega arith
    balance true false false b t u T U g claimed left e f h = omega arith
    balance false true live b t u T U g claimed left e f h = omega arith
    balance false false live b t u T U g claimed left e f h = omega arith

    blocked_is : (v : Voucher) → blocked_by lists at quota v ≡ (if (v.block_quota && is_live_voucher at v) && hits quota v then v.max_usages - redeemed v.id lists else 0)
    unfolding blocked_by
    blocked_is v = refl

    weight_is : (v : Voucher) → weight v ≡ (if v.block_quota && hits quota v then (if is_live_voucher at v then v.max_usages - redeemed v.id lists else count_by (claims v) lists.carts) else 0)
    weight_is v = by_tests (may_block v) (is_live_voucher at v)
      where
        by_tests : (b live : Bool) → weight_by b live v ≡ (if b then (if live then v.max_usages - redeemed v.id lists else count_by (claims v) lists.carts) else 0)
        by_tests true true = refl
        by_tests true false = refl
        by_tests false live = refl

    -- each voucher by itself
    regrouped : (n : ℕ) (vs : List Voucher) → InOrderFrom (λ r. r.id) n vs → taken vs ≡ count_by (is_free_here vs) lists.carts + sum_by weight vs
    regrouped n [] h = same_counts
      where
        nothing : (name : Option ℕ) → is_covered_by (with_vouchers []) at quota name ≡ is_held_by [] name
        nothing None = refl
        nothing (Some id) = refl

        same_counts : 0 + count_by (cart_counts (with_vouchers []) at quota) lists.carts ≡ count_by (is_free_here []) lists.carts + 0
        same_counts = omega (arith, same_sums (λ c. one (cart_counts (with_vouchers []) at quota c)) (λ c. one (is_free_here [] c)) lists.carts (λ c. ap (λ b. one (is_here c && not b)) (nothing c.voucher)))
    regrouped n (v ∷ vs) h =
        let b = balance v.block_quota (hits quota v) (is_live_voucher at v) (sum_by (blocked_by lists at quota) vs) (count_by (cart_counts (with_vouchers vs) at quota) lists.carts) (count_by (is_free_here vs) lists.carts)
        (count_by (cart_counts (with_vouchers (v ∷ vs)) at quota) lists.carts) (count_by (is_free_here (v ∷ vs)) lists.carts) (sum_by weight vs) (count_by (claims v) lists.carts) (v.max_usages - redeemed v.id lists)
        (carts_cons v vs h.1) (free_cons v vs h.1) (regrouped (v.id + 1) vs h.1) in
        omega (arith, b, blocked_is v, weight_is v, sum_by-cons (blocked_by lists at quota) v vs, sum_by-cons weight v vs)

-- later, less is free and less is weighed
module _ (lists : Lists) (quota : Quota) (m n : ℕ) (later : m ≤ n) where
  one_le : (a b s : Bool) → (a ≡ true → b ≡ true) → one (a && s) ≤ one (b && s)
  one_le true true s h = omega arith
  one_le true false s h = absurd (cc (h refl))
  one_le false true s h = at_least_none (true && s)
    where
      at_least_none : (b : Bool) → 0 ≤ one b
      at_least_none b = omega arith
  one_le false false s h = omega arith

  still : (e : ℕ) → leb n e ≡ true → leb m e ≡ true
  still e h = grind (arith, nat_tests, later)

  lives : (v : Voucher) → is_live_voucher n v ≡ true → is_live_voucher m v ≡ true
  lives v h = by_end v.valid_until h
    where
      by_end : (o : Option ℕ) → has_not_ended n o ≡ true → has_not_ended m o ≡ true
      by_end None h = refl
      by_end (Some e) h = still e h

  regroup : (a b s : Bool) → (a && b) && s ≡ a && (b && s)
  regroup true b s = refl
  regroup false b s = refl

  fewer : (p : CartPos → Bool) → count_by (λ c. is_here lists quota n c && p c) lists.carts ≤ count_by (λ c. is_here lists quota m c && p c) lists.carts
  fewer p = sum_by-le-sum_by (λ c. one (is_here lists quota n c && p c)) (λ c. one (is_here lists quota m c && p c)) lists.carts
      (λ c. subst (λ (x : Bool). one x ≤ one (is_here lists quota m c && p c)) (sym (regroup (is_live_cart n c) (is_in quota c.product) (p c)))
      (subst (λ (x : Bool). one (is_live_cart n c && (is_in quota c.product && p c)) ≤ one x) (sym (regroup (is_live_cart m c) (is_in quota c.product) (p c)))
      (one_le (is_live_cart n c) (is_live_cart m c) (is_in quota c.product && p c) (still c.expires))))

  claims_le : (v : Voucher) → count_by (claims lists quota m v) lists.carts ≤ held m v.id lists
  claims_le v = sum_by-le-sum_by (λ c. one (claims lists quota m v c)) (λ c. one (holds m v.id c)) lists.carts (λ c. drop_middle (is_live_cart m c) (is_in quota c.product) (names v.id c.voucher))
    where
      drop_middle : (a b s : Bool) → one ((a && b) && s) ≤ one (a && s)
      drop_middle true true s = omega arith
      drop_middle true false s = omega arith
      drop_middle false b s = omega arith

  lighter : (v : Voucher) → HasHeadroom m lists v → weight lists quota n v ≤ weight lists quota m v
  lighter v room = by_tests (may_block lists quota v) (is_live_voucher n v) (is_live_voucher m v) (lives v)
    where
      by_tests : (b now before : Bool) → (now ≡ true → before ≡ true) → weight_by lists quota n b now v ≤ weight_by lists quota m b before v
      by_tests false now before h = omega arith
      by_tests true true true h = omega arith
      by_tests true true false h = absurd (cc (h refl))
      by_tests true false true h = omega (arith, room, claims_le v, fewer (λ c. names v.id c.voucher))
      by_tests true false false h = fewer (λ c. names v.id c.voucher)

  all_lighter : (vs : List Voucher) → AllByRecursion (HasHeadroom m lists) vs → sum_by (weight lists quota n) vs ≤ sum_by (weight lists quota m) vs
  all_lighter [] h = omega arith
  all_lighter (v ∷ vs) h = omega (arith, sum_by-cons (weight lists quota n) v vs, sum_by-cons (weight lists quota m) v vs, lighter v h.0, all_lighter vs h.1)

  -- time alone raises no usage
  pub time_lowers_usage : AreInOrder (λ r. r.id) lists.vouchers → AllHaveHeadroom m lists → total (usage_of lists n quota) ≤ total (usage_of lists m quota)
  unfolding usage_of
  time_lowers_usage order room = omega (arith, regrouped lists quota n 0 lists.vouchers order, regrouped lists quota m 0 lists.vouchers order, all_lighter lists.vouchers room, fewer (λ c. not (is_held_by lists quota lists.vouchers c.voucher)))
