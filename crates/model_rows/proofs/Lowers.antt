-- What raises no usage: a cart position that goes, a voucher that nothing names and that goes, what is put into the catalogue,
-- and check-in lists.
use Rattle.std.proofs.Common.{◌≡◌, ℕ, ◌≤◌, Bool, false, not, ◌&&◌, eqb, cond, List, [], ◌∷◌, Option, Some, None, refl, ap, ◌∙◌, map, sum_by, arith}
use Rattle.std.specs.Prelude.{◌||◌, if◌then◌else◌}
use Rattle.std.specs.List.{list_any}
use Rattle.std.proofs.lemmas.Bool.Decides.{nat_tests}
use Rattle.std.proofs.lemmas.List.Sums.{sum_by-cons}
use Rattle.base_tables.specs.Tables.{without_row}
use Rattle.base_tables.proofs.Edits.{row_at-without_row}
use Rattle.model_catalogue.specs.declared.rows.Quota.{Quota}
use Rattle.model_catalogue.specs.declared.rows.Variation.{Variation}
use Rattle.model_catalogue.specs.CatalogueLists.{CatalogueLists}
use Rattle.model_catalogue.specs.Member.{is_in}
use Rattle.model_rows.specs.declared.rows.CartPos.{CartPos}
use Rattle.model_rows.specs.declared.rows.CheckinList.{CheckinList}
use Rattle.model_rows.specs.declared.changes.Change.TheVariants.{PutVariation, DropVoucher, DropCart, PutCheckinList}
use Rattle.model_rows.specs.Conditions.{is_live_cart, names}
use Rattle.model_rows.specs.Lists.{Lists, voucher_at}
use Rattle.model_rows.specs.Named.{is_ordered, is_in_cart, is_sent, is_used}
use Rattle.model_rows.specs.Change.{after_change, after_all}
use Rattle.model_rows.specs.Usage.{usage_of, blocked_by, blocks_if, is_covered_by, cart_counts}
use Rattle.model_rows.specs.Total.{total}
use Rattle.model_rows.proofs.EachRow.{neither_first, neither_second}

-- fewer rows add up to no more
sum_by-without_row-le : {T : Type 0} (key : T → ℕ) (f : T → ℕ) (id : ℕ) (rows : List T) → sum_by f (without_row key id rows) ≤ sum_by f rows
sum_by-without_row-le key f id [] = omega arith
sum_by-without_row-le key f id (r ∷ rs) = grind (arith, nat_tests, sum_by-cons f r rs, sum_by-cons f r (without_row key id rs), sum_by-without_row-le key f id rs)

module _ (lists : Lists) (at id : ℕ) (quota : Quota) where
  abbrev after : Lists
  after = after_change (DropVoucher id) lists

  covered : (name : Option ℕ) → names id name ≡ false → is_covered_by after at quota name ≡ is_covered_by lists at quota name
  covered None h = refl
  covered (Some v) h =
      let other : eqb id v ≡ false = grind (arith, nat_tests, h) in
      ap (blocks_if at quota) (row_at-without_row (λ r. r.id) v id lists.vouchers ∙ ap (λ b. cond b None (voucher_at v lists)) other)

  abbrev counts : Lists → CartPos → ℕ
  counts l c = if cart_counts l at quota c then 1 else 0

  same_carts : (carts : List CartPos) → list_any (λ c. names id c.voucher) carts ≡ false → sum_by (counts after) carts ≡ sum_by (counts lists) carts
  same_carts [] h = refl
  same_carts (c ∷ cs) h =
      let one : counts after c ≡ counts lists c = ap (λ (b : Bool). if is_live_cart at c && is_in quota c.product && not b then 1 else 0) (covered c.voucher (neither_first (names id c.voucher) (list_any (λ d. names id d.voucher) cs) h)) in
      omega (arith, sum_by-cons (counts after) c cs, sum_by-cons (counts lists) c cs, one, same_carts cs (neither_second (names id c.voucher) (list_any (λ d. names id d.voucher) cs) h))

  pub drop_voucher_lowers : is_used id lists ≡ false → total (usage_of after at quota) ≤ total (usage_of lists at quota)
  unfolding usage_of blocked_by
  drop_voucher_lowers unused =
      let in_cart = neither_first (is_in_cart id lists) (is_sent id lists) (neither_second (is_ordered id lists) (is_in_cart id lists || is_sent id lists) unused) in
      omega (arith, same_carts lists.carts in_cart, sum_by-without_row-le (λ r. r.id) (blocked_by lists at quota) id lists.vouchers)

  pub drop_cart_lowers : total (usage_of (after_change (DropCart id) lists) at quota) ≤ total (usage_of lists at quota)
  unfolding usage_of blocked_by
  drop_cart_lowers = omega (arith, sum_by-without_row-le (λ r. r.id) (counts lists) id lists.carts)

-- usage doesn't depend on what is for sale, but for the quota itself
pub catalogue_apart : (lists : Lists) (catalogue : CatalogueLists) (at : ℕ) (quota : Quota) → usage_of (record lists { catalogue = catalogue }) at quota ≡ usage_of lists at quota
unfolding usage_of blocked_by
catalogue_apart lists catalogue at quota = refl

pub put_variations_apart : (rows : List Variation) (lists : Lists) (at : ℕ) (quota : Quota) → usage_of (after_all (map PutVariation rows) lists) at quota ≡ usage_of lists at quota
put_variations_apart [] lists at quota = refl
put_variations_apart (row ∷ rows) lists at quota =
    put_variations_apart rows (after_change (PutVariation row) lists) at quota ∙ catalogue_apart lists (after_change (PutVariation row) lists).catalogue at quota

-- nor on the door's lists
pub checkin_list_apart : (row : CheckinList) (lists : Lists) (at : ℕ) (quota : Quota) → usage_of (after_change (PutCheckinList row) lists) at quota ≡ usage_of lists at quota
unfolding usage_of blocked_by
checkin_list_apart row lists at quota = refl
