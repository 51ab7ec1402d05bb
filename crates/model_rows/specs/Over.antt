-- When a request takes too much of a quota.
use Rattle.std.specs.Prelude.{ℕ, ◌-◌, Bool, false, ◌&&◌, nat_lt, List, Option, Some, None, count_by, find, option_map}
use Rattle.model_catalogue.specs.declared.rows.Quota.{Quota}
use Rattle.model_rows.specs.declared.rows.Voucher.{Voucher}
use Rattle.model_rows.specs.declared.rows.CartPos.{CartPos}
use Rattle.model_rows.specs.declared.rows.OrderPos.{OrderPos}
use Rattle.model_rows.specs.declared.rows.Own.{Own}
use Rattle.model_rows.specs.declared.rows.Own.TheVariants.{Cart, Position}
use Rattle.model_rows.specs.Lists.{Lists, voucher_at, cart_at, position_at}
use Rattle.model_rows.specs.Usage.{usage_of, cart_counts, takes_place}
use Rattle.model_rows.specs.Total.{total}

-- the voucher is there, and ignores quotas
abbrev pub ignores_by : Option Voucher → Bool
ignores_by None = false
ignores_by (Some voucher) = voucher.allow_ignore_quota

-- the row's voucher ignores quotas
abbrev pub ignores : Lists → Option ℕ → Bool
ignores lists None = false
ignores lists (Some id) = ignores_by (voucher_at id lists)

-- an own cart position that counts in the quota, and whose voucher ignores quotas
abbrev pub is_free_cart : Lists → ℕ → Quota → Option CartPos → Bool
is_free_cart lists at quota None = false
is_free_cart lists at quota (Some cart) = cart_counts lists at quota cart && ignores lists cart.voucher

-- an own order position that takes a place of the quota, and whose voucher ignores quotas
abbrev pub is_free_position : Lists → Quota → Option OrderPos → Bool
is_free_position lists quota None = false
is_free_position lists quota (Some position) = takes_place lists quota position && ignores lists position.voucher

-- an own row that counts in the quota, but isn't weighed, since its voucher ignores quotas
abbrev pub is_free : Lists → ℕ → Quota → Own → Bool
is_free lists at quota (Cart id) = is_free_cart lists at quota (cart_at id lists)
is_free lists at quota (Position id) = is_free_position lists quota (position_at id lists)

-- what is used afterwards, less the request's own rows that ignore quotas
unfoldable pub quota_weighed : Lists → ℕ → Quota → List Own → ℕ
quota_weighed lists at quota own = total (usage_of lists at quota) - count_by (is_free lists at quota) own

-- what is weighed is more than the size, and more than was used before; an unlimited quota is never over
abbrev pub is_over_size : Option ℕ → ℕ → ℕ → Bool
is_over_size None before weight = false
is_over_size (Some size) before weight = nat_lt size weight && nat_lt before weight

-- the request, which leads from one shop to the other, takes too much of the quota
abbrev pub is_over : Lists → Lists → ℕ → List Own → Quota → Bool
is_over before after at own quota = is_over_size quota.size (total (usage_of before at quota)) (quota_weighed after at quota own)

-- the least such quota
abbrev pub first_over : Lists → Lists → ℕ → List Own → Option ℕ
first_over before after at own = option_map (λ quota. quota.id) (find (is_over before after at own) after.catalogue.quotas)
