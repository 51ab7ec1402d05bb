-- The usage at a later moment, by what has ended since: for counters that stand at a moment.
use Rattle.std.proofs.Common.{◌≡◌, ℕ, ◌+◌, ◌-◌, ◌≤◌, Bool, true, false, not, ◌&&◌, leb, List, Option, Some, None, refl, count_by, sum_by, arith}
use Rattle.std.specs.Prelude.{if◌then◌else◌}
use Rattle.std.proofs.lemmas.Bool.Decides.{nat_tests}
use Rattle.base_tables.specs.Tables.{row_at}
use Rattle.model_catalogue.specs.declared.rows.Quota.{Quota}
use Rattle.model_catalogue.specs.Member.{is_in}
use Rattle.model_rows.specs.declared.rows.Voucher.{Voucher}
use Rattle.model_rows.specs.declared.rows.CartPos.{CartPos}
use Rattle.model_rows.specs.Conditions.{is_live_voucher, is_live_cart, has_not_ended, hits, blocks}
use Rattle.model_rows.specs.Lists.{Lists, voucher_at}
use Rattle.model_rows.specs.Usage.{redeemed, blocked_by, blocks_if, is_covered_by, cart_counts}
use Rattle.model_rows.proofs.Time.{one, sum_by_split}
use Rattle.model_rows.proofs.Orders.{sum_by_swap}

module _ (quota : Quota) (lists : Lists) (at later : ℕ) (le : at ≤ later) where
  -- a cart position that was live, and has ended
  abbrev pub has_lapsed : CartPos → Bool
  has_lapsed cart = is_live_cart at cart && not (is_live_cart later cart)

  -- a voucher that blocked the quota, and has ended
  abbrev pub has_released : Voucher → Bool
  has_released voucher = blocks at quota voucher && not (is_live_voucher later voucher)

  abbrev pub released_if : Option Voucher → Bool
  released_if None = false
  released_if (Some voucher) = has_released voucher

  abbrev pub released_by : List Voucher → Option ℕ → Bool
  released_by vouchers None = false
  released_by vouchers (Some id) = released_if (row_at (λ r. r.id) id vouchers)

  still : (e : ℕ) → leb later e ≡ true → leb at e ≡ true
  still e h = grind (arith, nat_tests, le)

  -- a live cart position of the quota whose voucher has ended counts from then on
  abbrev pub is_freed : List Voucher → CartPos → Bool
  is_freed vouchers cart = (is_live_cart later cart && is_in quota cart.product) && released_by vouchers cart.voucher

  weigh : (now before in_it block hit live_now live_before : Bool) → (now ≡ true → before ≡ true) → (live_now ≡ true → live_before ≡ true)
      → one (now && in_it && not ((block && live_now) && hit)) + one ((before && not now) && (before && in_it && not ((block && live_before) && hit))) ≡ one (before && in_it && not ((block && live_before) && hit)) + one ((now && in_it) && (((block && live_before) && hit) && not live_now))
  weigh true false i b h l k p q = absurd (cc (p refl))
  weigh n m i b h true false p q = absurd (cc (q refl))
  weigh false false i b h l k p q = omega arith
  weigh false true false b h l k p q = omega arith
  weigh true true false b h l k p q = omega arith
  weigh false true true false h l k p q = omega arith
  weigh true true true false h l k p q = omega arith
  weigh false true true true true l true p q = omega arith
  weigh false true true true false l true p q = omega arith
  weigh false true true true h false false p q = omega arith
  weigh true true true true true true true p q = refl
  weigh true true true true true false true p q = refl
  weigh true true true true false l true p q = omega arith
  weigh true true true true h false false p q = omega arith

  ended : (o : Option ℕ) → has_not_ended later o ≡ true → has_not_ended at o ≡ true
  ended None h = refl
  ended (Some e) h = still e h

  -- a cart position that names no voucher that stands
  weigh_plain : (now before in_it : Bool) → (now ≡ true → before ≡ true) → one (now && in_it && not false) + one ((before && not now) && (before && in_it && not false)) ≡ one (before && in_it && not false) + one ((now && in_it) && false)
  weigh_plain true true true p = refl
  weigh_plain true true false p = refl
  weigh_plain true false i p = absurd (cc (p refl))
  weigh_plain false true true p = refl
  weigh_plain false true false p = refl
  weigh_plain false false true p = refl
  weigh_plain false false false p = refl

  weigh_by : (cart : CartPos) (found : Option Voucher)
      → one (is_live_cart later cart && is_in quota cart.product && not (blocks_if later quota found)) + one (has_lapsed cart && (is_live_cart at cart && is_in quota cart.product && not (blocks_if at quota found))) ≡ one (is_live_cart at cart && is_in quota cart.product && not (blocks_if at quota found)) + one ((is_live_cart later cart && is_in quota cart.product) && released_if found)
  weigh_by cart None = weigh_plain (is_live_cart later cart) (is_live_cart at cart) (is_in quota cart.product) (still cart.expires)
  weigh_by cart (Some v) = weigh (is_live_cart later cart) (is_live_cart at cart) (is_in quota cart.product) v.block_quota (hits quota v) (is_live_voucher later v) (is_live_voucher at v) (still cart.expires) (ended v.valid_until)

  weigh_cart : (cart : CartPos) (name : Option ℕ)
      → one (is_live_cart later cart && is_in quota cart.product && not (is_covered_by lists later quota name)) + one (has_lapsed cart && (is_live_cart at cart && is_in quota cart.product && not (is_covered_by lists at quota name)))
      ≡ one (is_live_cart at cart && is_in quota cart.product && not (is_covered_by lists at quota name)) + one ((is_live_cart later cart && is_in quota cart.product) && released_by lists.vouchers name)
  weigh_cart cart None = weigh_by cart None
  weigh_cart cart (Some id) = weigh_by cart (voucher_at id lists)

  -- carts later: less those that have lapsed, and with those that vouchers which ended set free
  pub carts_later : count_by (cart_counts lists later quota) lists.carts + count_by (λ c. has_lapsed c && cart_counts lists at quota c) lists.carts ≡ count_by (cart_counts lists at quota) lists.carts + count_by (is_freed lists.vouchers) lists.carts
  carts_later = sum_by_swap (λ c. one (cart_counts lists later quota c)) (λ c. one (has_lapsed c && cart_counts lists at quota c)) (λ c. one (cart_counts lists at quota c)) (λ c. one (is_freed lists.vouchers c)) lists.carts (λ c. weigh_cart c c.voucher)

  part : (block live_now live_before hit : Bool) (left : ℕ) → (live_now ≡ true → live_before ≡ true) → (if (block && live_now) && hit then left else 0) + (if ((block && live_before) && hit) && not live_now then left else 0) ≡ (if (block && live_before) && hit then left else 0)
  part false n m h left p = refl
  part true true true true left p = omega arith
  part true true true false left p = refl
  part true true false h left p = absurd (cc (p refl))
  part true false true true left p = omega arith
  part true false true false left p = refl
  part true false false h left p = refl

  -- blocked later: less what vouchers that ended blocked
  pub blocked_later : sum_by (blocked_by lists later quota) lists.vouchers + sum_by (λ v. if has_released v then v.max_usages - redeemed v.id lists else 0) lists.vouchers ≡ sum_by (blocked_by lists at quota) lists.vouchers
  unfolding blocked_by
  blocked_later = sum_by_split (blocked_by lists later quota) (λ v. if has_released v then v.max_usages - redeemed v.id lists else 0) (blocked_by lists at quota) lists.vouchers (λ v. part v.block_quota (is_live_voucher later v) (is_live_voucher at v) (hits quota v) (v.max_usages - redeemed v.id lists) (ended v.valid_until))
