-- A quota that nothing reaches which came due between two moments is used as much at the later one as at the earlier.
use Rattle.std.proofs.Common.{◌≡◌, ℕ, ◌-◌, ◌≤◌, Bool, true, false, not, ◌&&◌, leb, ltb, List, [], ◌∷◌, Option, Some, None, refl, sym, ap, ◌∙◌, sum_by, count_by, arith}
use Rattle.std.specs.List.{AllByRecursion}
use Rattle.std.specs.Prelude.{if◌then◌else◌, flat_map}
use Rattle.std.proofs.lemmas.Bool.{false≢true}
use Rattle.std.proofs.lemmas.Bool.Decides.{nat_tests}
use Rattle.std.proofs.lemmas.List.Sums.{sum_by-cons}
use Rattle.base_tables.specs.Tables.{has}
use Rattle.model_catalogue.specs.declared.rows.Product.{Product}
use Rattle.model_catalogue.specs.declared.rows.Quota.{Quota}
use Rattle.model_catalogue.specs.CatalogueLists.{CatalogueLists, quota_at}
use Rattle.model_catalogue.specs.Kept.{quotas_of}
use Rattle.model_catalogue.specs.Member.{is_in}
use Rattle.book_usage.specs.Dues.{due_carts, due_vouchers}
use Rattle.model_rows.specs.declared.rows.Voucher.{Voucher}
use Rattle.model_rows.specs.declared.rows.CartPos.{CartPos}
use Rattle.model_rows.specs.CameDue.{ends_between, is_due_cart, is_due_voucher}
use Rattle.model_rows.specs.Conditions.{has_not_ended, is_live_cart, is_live_voucher, hits, hits_by, hits_by_product, blocks, names}
use Rattle.model_rows.specs.Lists.{Lists, voucher_at, cart_at}
use Rattle.model_rows.specs.Usage.{redeemed, blocked_by, blocks_if, is_covered, is_covered_by, cart_counts, usage_of}
use Rattle.model_rows.proofs.EachRow.{all_weaker}
use Rattle.model_rows.proofs.Found.{each_found}
use Rattle.book_counts_to_write.specs.Due.{ids_naming, quotas_sold, hit_by, hit_by_name, hit_by_product, quotas_hit, ended_carts, due_quotas}
use Rattle.book_counts_to_write.specs.Told.{AreOrdered, told_if}
use Rattle.book_counts_to_write.proofs.Absent.{absent_both, absent_fails, alone, one_absent}
use Rattle.book_counts_to_write.proofs.Picked.{own_id}

abbrev once : Bool → ℕ
once b = if b then 1 else 0

and_false : (b : Bool) → (b && false) ≡ false
and_false true = refl
and_false false = refl

-- rows that add the same one by one add the same together
same_sum : {T : Type 0} (f g : T → ℕ) (rows : List T) → AllByRecursion (λ r. f r ≡ g r) rows → sum_by f rows ≡ sum_by g rows
same_sum f g [] all = refl
same_sum f g (r ∷ rs) all = omega (arith, sum_by-cons f r rs, sum_by-cons g r rs, all.0, same_sum f g rs all.1)

-- a quota that isn't among those of a product, or among those that a voucher hits
module _ (q : Quota) (cat : CatalogueLists) (stands : quota_at q.id cat ≡ Some q) where
  not_in : (product : Product) → has q.id (quotas_of product cat) ≡ false → is_in q product ≡ false
  not_in product absent = absent_fails (λ (r : Quota). r.id) (λ r. is_in r product) q.id q cat.quotas stands absent

  not_hit_by : (item variation : Option ℕ) → has q.id (hit_by_product cat item variation) ≡ false → hits_by_product q item variation ≡ false
  not_hit_by None variation absent = refl
  not_hit_by (Some item) variation absent = not_in (record { item = item; variation = variation }) absent

  not_hit : (v : Voucher) (name : Option ℕ) → has q.id (hit_by_name cat name v) ≡ false → hits_by q name v ≡ false
  not_hit v (Some id) absent = alone id q.id absent
  not_hit v None absent = not_hit_by v.item v.variation absent

module _ (from to : ℕ) (later : from ≤ to) where
  same_end : (end : ℕ) → (leb from end && ltb end to) ≡ false → leb to end ≡ leb from end
  same_end end stays = grind (arith, nat_tests, later, stays)

  same_life : (end : Option ℕ) → ends_between from to end ≡ false → has_not_ended to end ≡ has_not_ended from end
  same_life None stays = refl
  same_life (Some end) stays = same_end end stays

  same_blocks : (q : Quota) (v : Voucher) → is_due_voucher from to v ≡ false → blocks to q v ≡ blocks from q v
  same_blocks q v stays = ap (λ b. v.block_quota && b && hits q v) (same_life v.valid_until stays)

  module _ (lists : Lists) where
    -- a voucher that isn't among those that came due
    voucher_stays : (id : ℕ) (v : Voucher) → voucher_at id lists ≡ Some v → has id (due_vouchers from to lists) ≡ false → is_due_voucher from to v ≡ false
    voucher_stays id v found absent = absent_fails (λ (r : Voucher). r.id) (is_due_voucher from to) id v lists.vouchers found absent

    -- and one that is, which a cart position doesn't name that isn't reached by them
    not_named : (id one : ℕ) (c : CartPos) → cart_at id lists ≡ Some c → c.voucher ≡ Some one → has id (flat_map (ids_naming lists) (due_vouchers from to lists)) ≡ false → has one (due_vouchers from to lists) ≡ true → ⊥
    not_named id one c found name absent within =
        let fails : names one c.voucher ≡ false = absent_fails (λ (r : CartPos). r.id) (λ r. names one r.voucher) id c lists.carts found (one_absent id one (ids_naming lists) (due_vouchers from to lists) absent within) in
        false≢true (sym fails ∙ ap (names one) name ∙ own_id one)

    module _ (q : Quota) where
      same_cover : (id : ℕ) (c : CartPos) → cart_at id lists ≡ Some c → has id (flat_map (ids_naming lists) (due_vouchers from to lists)) ≡ false → (name : Option ℕ) → c.voucher ≡ name → is_covered_by lists to q name ≡ is_covered_by lists from q name
      same_cover id c found absent None name = refl
      same_cover id c found absent (Some one) name = by_voucher (voucher_at one lists) refl
        where
          by_test : (v : Voucher) → voucher_at one lists ≡ Some v → (b : Bool) → has one (due_vouchers from to lists) ≡ b → blocks to q v ≡ blocks from q v
          by_test v stands true is = absurd (not_named id one c found name absent is)
          by_test v stands false is = same_blocks q v (voucher_stays one v stands is)

          by_voucher : (o : Option Voucher) → voucher_at one lists ≡ o → blocks_if to q o ≡ blocks_if from q o
          by_voucher None stands = refl
          by_voucher (Some v) stands = by_test v stands (has one (due_vouchers from to lists)) refl

      -- a cart position of another quota doesn't count at any moment
      no_cart : (at : ℕ) (c : CartPos) → is_in q c.product ≡ false → cart_counts lists at q c ≡ false
      no_cart at c out = ap (λ b. is_live_cart at c && b && not (is_covered lists at q c)) out ∙ ap (λ b. b && not (is_covered lists at q c)) (and_false (is_live_cart at c))

      -- nor does a voucher that hits another one block places
      no_places : (at : ℕ) (v : Voucher) → hits q v ≡ false → blocks at q v ≡ false
      no_places at v out = ap (λ b. v.block_quota && is_live_voucher at v && b) out ∙ and_false (v.block_quota && is_live_voucher at v)

      module _ (stands : quota_at q.id lists.catalogue ≡ Some q) (absent : has q.id (due_quotas from to lists) ≡ false) where
        apart : (has q.id (flat_map (quotas_sold lists) (ended_carts from to lists)) ≡ false) × (has q.id (flat_map (quotas_hit lists) (due_vouchers from to lists)) ≡ false)
        apart = absent_both q.id (flat_map (quotas_sold lists) (ended_carts from to lists)) (flat_map (quotas_hit lists) (due_vouchers from to lists)) absent

        same_counts : (c : CartPos) → cart_at c.id lists ≡ Some c → (b : Bool) → has c.id (ended_carts from to lists) ≡ b → cart_counts lists to q c ≡ cart_counts lists from q c
        same_counts c found true is =
            let none : has q.id (quotas_sold lists c.id) ≡ false = one_absent q.id c.id (quotas_sold lists) (ended_carts from to lists) apart.0 is in
            let out : is_in q c.product ≡ false = not_in q lists.catalogue stands c.product (ap (λ (o : Option CartPos). has q.id (told_if (λ d. quotas_of d.product lists.catalogue) o)) (sym found) ∙ none) in
            no_cart to c out ∙ sym (no_cart from c out)
        same_counts c found false is =
            let both = absent_both c.id (due_carts from to lists) (flat_map (ids_naming lists) (due_vouchers from to lists)) is in
            let stays : is_due_cart from to c ≡ false = absent_fails (λ (r : CartPos). r.id) (is_due_cart from to) c.id c lists.carts found both.0 in
            ap (λ b. b && is_in q c.product && not (is_covered_by lists to q c.voucher)) (same_end c.expires stays)
            ∙ ap (λ b. is_live_cart from c && is_in q c.product && not b) (same_cover c.id c found both.1 c.voucher refl)

        same_blocked : (v : Voucher) → voucher_at v.id lists ≡ Some v → (b : Bool) → has v.id (due_vouchers from to lists) ≡ b → blocks to q v ≡ blocks from q v
        same_blocked v found true is =
            let none : has q.id (quotas_hit lists v.id) ≡ false = one_absent q.id v.id (quotas_hit lists) (due_vouchers from to lists) apart.1 is in
            let out : hits q v ≡ false = not_hit q lists.catalogue stands v v.quota (ap (λ (o : Option Voucher). has q.id (told_if (hit_by lists.catalogue) o)) (sym found) ∙ none) in
            no_places to v out ∙ sym (no_places from v out)
        same_blocked v found false is = same_blocks q v (voucher_stays v.id v found is)

        pub used_alike : AreOrdered lists → usage_of lists to q ≡ usage_of lists from q
        unfolding usage_of blocked_by
        used_alike order =
            let blocked : sum_by (blocked_by lists to q) lists.vouchers ≡ sum_by (blocked_by lists from q) lists.vouchers =
            same_sum (blocked_by lists to q) (blocked_by lists from q) lists.vouchers
            (all_weaker (λ v. voucher_at v.id lists ≡ Some v) (λ v. blocked_by lists to q v ≡ blocked_by lists from q v)
            (λ v found. ap (λ b. if b then v.max_usages - redeemed v.id lists else 0) (same_blocked v found (has v.id (due_vouchers from to lists)) refl))
            lists.vouchers (each_found (λ v. v.id) 0 lists.vouchers order.vouchers)) in
            let carts : count_by (cart_counts lists to q) lists.carts ≡ count_by (cart_counts lists from q) lists.carts =
            same_sum (λ c. once (cart_counts lists to q c)) (λ c. once (cart_counts lists from q c)) lists.carts
            (all_weaker (λ c. cart_at c.id lists ≡ Some c) (λ c. once (cart_counts lists to q c) ≡ once (cart_counts lists from q c))
            (λ c found. ap once (same_counts c found (has c.id (ended_carts from to lists)) refl))
            lists.carts (each_found (λ c. c.id) 0 lists.carts order.carts)) in
            ap (λ n. record (usage_of lists to q) { blocked = n }) blocked ∙ ap (λ n. record (usage_of lists from q) { carts = n }) carts
