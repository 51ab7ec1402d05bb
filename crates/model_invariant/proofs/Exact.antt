-- A product whose voucher blocks a quota is in that quota.
use Rattle.std.proofs.Common.{◌≡◌, ℕ, Bool, true, false, ◌&&◌, not, eqb, List, Option, Some, None, refl, sym, ap, ◌∙◌, arith}
use Rattle.std.specs.Prelude.{◌||◌, is_some, is_none}
use Rattle.std.specs.List.{AllByRecursion}
use Rattle.std.proofs.lemmas.Bool.Decides.{nat_tests}
use Rattle.base_tables.specs.Tables.{has, row_at}
use Rattle.model_catalogue.specs.declared.rows.Item.{Item}
use Rattle.model_catalogue.specs.declared.rows.Product.{Product}
use Rattle.model_catalogue.specs.declared.rows.Quota.{Quota}
use Rattle.model_catalogue.specs.CatalogueLists.{CatalogueLists, item_at, quota_at}
use Rattle.model_catalogue.specs.Member.{lists, is_in}
use Rattle.model_rows.specs.declared.rows.Voucher.{Voucher}
use Rattle.model_rows.specs.Conditions.{is_live_voucher, hits_by_product, hits_by, hits, names}
use Rattle.model_rows.specs.Lists.{Lists, State, voucher_at}
use Rattle.model_rows.specs.Usage.{blocks_if, is_covered_by}
use Rattle.model_rows.specs.Fits.{has_variation, fits_item, fits_quota, fits_by, fits_if, is_fit, is_exact_if}
use Rattle.model_rows.specs.Asked.{is_exact, AllExact}
use Rattle.model_invariant.specs.Varied.{sold_as, is_sold_as, is_plain, names_as_sold, is_named_as_sold, is_whole, IsProduct, AllWhole}
use Rattle.model_invariant.specs.Sound.{IsSound}
use Rattle.model_rows.proofs.EachRow.{all_weaker, all_both, all-row_at}

both_first : (a b : Bool) → (a && b) ≡ true → a ≡ true
both_first true b e = refl
both_first false b e = absurd (cc)

both_second : (a b : Bool) → (a && b) ≡ true → b ≡ true
both_second true b e = e
both_second false b e = absurd (cc)

module _ (shop : Lists) (at : ℕ) (quota : Quota) (stands : quota_at quota.id shop.catalogue ≡ Some quota) (product : Product) where
  by_variation : (its variation : Option ℕ) (item : ℕ) → item ≡ product.item → product.variation ≡ its → has_variation variation product ≡ true → hits_by_product quota (Some item) variation ≡ true → (is_some variation || is_none its) ≡ true → lists quota product its ≡ true
  by_variation None None item same is fit hit exact = ap (λ (n : ℕ). has n quota.items) (sym same) ∙ hit
  by_variation (Some y) None item same is fit hit exact = absurd (cc)
  by_variation None (Some x) item same is fit hit exact =
      let never : false ≡ true = ap (names x) (sym is) ∙ fit in
      absurd (cc)
  by_variation (Some y) (Some x) item same is fit hit exact =
      let named : eqb y x ≡ true = ap (names x) (sym is) ∙ fit in
      let it : y ≡ x = grind (arith, nat_tests, named) in
      ap (λ (n : ℕ). has n quota.variations) it ∙ hit

  by_item : (item variation : Option ℕ) → fits_item item variation product ≡ true → hits_by_product quota item variation ≡ true → (is_some variation || is_none product.variation) ≡ true → is_in quota product ≡ true
  by_item None variation fit hit exact = absurd (cc)
  by_item (Some item) variation fit hit exact =
      let named : eqb item product.item ≡ true = both_first (eqb item product.item) (has_variation variation product) fit in
      let same : item ≡ product.item = grind (arith, nat_tests, named) in
      by_variation product.variation variation item same refl (both_second (eqb item product.item) (has_variation variation product) fit) hit exact

  by_quota : (voucher : Voucher) (name : Option ℕ) → fits_by shop.catalogue voucher product name ≡ true → hits_by quota name voucher ≡ true → (is_some name || (is_some voucher.variation || is_none product.variation)) ≡ true → is_in quota product ≡ true
  by_quota voucher None fit hit exact = by_item voucher.item voucher.variation fit hit exact
  by_quota voucher (Some id) fit hit exact =
      let same : id ≡ quota.id = grind (arith, nat_tests, hit) in
      sym (ap (λ (found : Option Quota). fits_quota found product) (ap (λ n. quota_at n shop.catalogue) same ∙ stands)) ∙ fit

  by_voucher : (found : Option Voucher) → fits_if shop.catalogue product found ≡ true → blocks_if at quota found ≡ true → is_exact_if product found ≡ true → is_in quota product ≡ true
  by_voucher None fit hit exact = absurd (cc)
  by_voucher (Some voucher) fit hit exact =
      let live = both_first (voucher.block_quota && is_live_voucher at voucher) (hits quota voucher) hit in
      let blocks = both_first voucher.block_quota (is_live_voucher at voucher) live in
      by_quota voucher voucher.quota fit (both_second (voucher.block_quota && is_live_voucher at voucher) (hits quota voucher) hit) (sym (ap (λ b. not b || (is_some voucher.quota || (is_some voucher.variation || is_none product.variation))) blocks) ∙ exact)

  covered_inside : (name : Option ℕ) → is_fit shop product name ≡ true → is_exact shop product name ≡ true → is_covered_by shop at quota name ≡ true → is_in quota product ≡ true
  covered_inside None fit exact hit = absurd (cc)
  covered_inside (Some id) fit exact hit = by_voucher (voucher_at id shop) fit hit exact

-- each order position whose voucher blocks a quota that stands is in it
pub all_inside : (shop : Lists) (at : ℕ) (quota : Quota) → quota_at quota.id shop.catalogue ≡ Some quota → AllByRecursion (λ p. is_fit shop p.product p.voucher ≡ true) shop.positions → AllExact shop → AllByRecursion (λ p. is_covered_by shop at quota p.voucher ≡ true → is_in quota p.product ≡ true) shop.positions
all_inside shop at quota stands fit exact =
    all_weaker (λ p. (is_fit shop p.product p.voucher ≡ true) × (is_exact shop p.product p.voucher ≡ true)) (λ p. is_covered_by shop at quota p.voucher ≡ true → is_in quota p.product ≡ true) (λ p known hit. covered_inside shop at quota stands p.product p.voucher known.0 known.1 hit) shop.positions
    (all_both (λ p. is_fit shop p.product p.voucher ≡ true) (λ p. is_exact shop p.product p.voucher ≡ true) shop.positions fit exact)

-- a voucher that blocks tells a product that it is for whole: what isn't sold by variation has none
module _ (catalogue : CatalogueLists) (product : Product) (is : is_named_as_sold catalogue.items product ≡ true) where
  none_by : (variation : Option ℕ) (varied : Bool) → not varied ≡ true → names_as_sold variation varied ≡ true → is_none variation ≡ true
  none_by variation true plain named = absurd (cc)
  none_by variation false plain named = named

  none_of : (found : Option Item) → sold_as (λ varied. not varied) found ≡ true → sold_as (names_as_sold product.variation) found ≡ true → is_none product.variation ≡ true
  none_of None plain named = absurd (cc)
  none_of (Some item) plain named = none_by product.variation item.varied plain named

  exact_item : (item variation : Option ℕ) → fits_item item variation product ≡ true → (is_some variation || is_plain catalogue.items item) ≡ true → (is_some variation || is_none product.variation) ≡ true
  exact_item item (Some variation) fit plain = refl
  exact_item None None fit plain = absurd (cc)
  exact_item (Some item) None fit plain =
      let same : item ≡ product.item = grind (arith, nat_tests, both_first (eqb item product.item) true fit) in
      none_of (item_at product.item catalogue) (sym (ap (λ (n : ℕ). is_sold_as (λ varied. not varied) n catalogue.items) same) ∙ plain) is

  exact_by : (voucher : Voucher) (blocks : Bool) (quota : Option ℕ) → fits_by catalogue voucher product quota ≡ true → (not blocks || (is_some quota || (is_some voucher.variation || is_plain catalogue.items voucher.item))) ≡ true → (not blocks || (is_some quota || (is_some voucher.variation || is_none product.variation))) ≡ true
  exact_by voucher false quota fit whole = refl
  exact_by voucher true (Some quota) fit whole = refl
  exact_by voucher true None fit whole = exact_item voucher.item voucher.variation fit whole

  exact_voucher : (vouchers : List Voucher) → AllByRecursion (λ v. is_whole catalogue.items v ≡ true) vouchers → (id : ℕ) (found : Option Voucher) → row_at (λ r. r.id) id vouchers ≡ found → fits_if catalogue product found ≡ true → is_exact_if product found ≡ true
  exact_voucher vouchers whole id None e fit = refl
  exact_voucher vouchers whole id (Some voucher) e fit = exact_by voucher voucher.block_quota voucher.quota fit (all-row_at (λ (r : Voucher). r.id) (λ v. is_whole catalogue.items v ≡ true) id vouchers voucher e whole)

exact_row : (shop : Lists) → AllWhole shop → (product : Product) (name : Option ℕ) → is_named_as_sold shop.catalogue.items product ≡ true → is_fit shop product name ≡ true → is_exact shop product name ≡ true
exact_row shop whole product None is fit = refl
exact_row shop whole product (Some id) is fit = exact_voucher shop.catalogue product is shop.vouchers whole id (voucher_at id shop) refl fit

-- each voucher that blocks and that an order position names tells the product whole
pub sound_exact : (state : State) → IsSound state → AllExact state.lists
sound_exact state h =
    all_weaker (λ p. IsProduct state.lists.catalogue p.product × (is_fit state.lists p.product p.voucher ≡ true)) (λ p. is_exact state.lists p.product p.voucher ≡ true) (λ p known. exact_row state.lists h.whole p.product p.voucher known.0.as_sold known.1) state.lists.positions
    (all_both (λ p. IsProduct state.lists.catalogue p.product) (λ p. is_fit state.lists p.product p.voucher ≡ true) state.lists.positions h.products.positions h.fit.positions)
