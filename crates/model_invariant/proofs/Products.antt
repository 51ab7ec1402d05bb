-- A product that can be asked for is one.
use Rattle.std.proofs.Common.{◌≡◌, ℕ, true, eqb, Option, Some, None, Result, Ok, refl, sym, ap, ◌∙◌, subst, arith}
use Rattle.std.specs.List.{AllByRecursion}
use Rattle.std.proofs.lemmas.Bool.Decides.{nat_tests}
use Rattle.base_values.proofs.Decided.{found, passed, unrefused, gave_it}
use Rattle.model_catalogue.specs.declared.rows.Item.{Item}
use Rattle.model_catalogue.specs.declared.rows.Product.{Product}
use Rattle.model_catalogue.specs.declared.rows.Variation.{Variation}
use Rattle.model_catalogue.specs.declared.refusal.CatalogueRefusal.{CatalogueRefusal}
use Rattle.model_catalogue.specs.CatalogueLists.{CatalogueLists, item_at, product_in, product_of}
use Rattle.model_invariant.specs.Targets.{variation_by}
use Rattle.model_invariant.specs.Varied.{sold_as, is_sold_as, is_of_varied, names_as_sold, IsProduct}
use Rattle.model_rows.proofs.EachRow.{all-row_at}

-- a product that can be asked for is one: it names a variation, which stands and is of its item, exactly where the item is sold by variation
module _ (lists : CatalogueLists) (of_varied : AllByRecursion (λ v. is_of_varied lists.items v ≡ true) lists.variations) (product : Product) where
  abbrev GivesProduct : Result Product CatalogueRefusal → Type 0
  GivesProduct result = result ≡ Ok product

  by_itself : (item : ℕ) (row : Item) → item_at item lists ≡ Some row → GivesProduct (product_in item None lists row) → IsProduct lists product
  by_itself item row stood h =
      let (is, h1) = unrefused row.varied _ _ h in
      subst (IsProduct lists) (gave_it (record { item = item; variation = None }) product h1) (record { as_sold = ap (sold_as (names_as_sold None)) stood ∙ ap (names_as_sold None) is; own = refl })

  by_variation : (item id : ℕ) (row : Item) → item_at item lists ≡ Some row → GivesProduct (product_in item (Some id) lists row) → IsProduct lists product
  by_variation item id row stood h =
      let (variation, stands, h1) = found _ _ _ h in
      let (is, h2) = passed (eqb variation.item item) _ _ h1 in
      let own : variation.item ≡ item = grind (arith, nat_tests, is) in
      let known = all-row_at (λ (v : Variation). v.id) (λ v. is_of_varied lists.items v ≡ true) id lists.variations variation stands of_varied in
      let varied : row.varied ≡ true = sym (ap (sold_as (λ varied. varied)) stood) ∙ subst (λ (n : ℕ). is_sold_as (λ varied. varied) n lists.items ≡ true) own known in
      subst (IsProduct lists) (gave_it (record { item = item; variation = Some id }) product h2) (record { as_sold = ap (sold_as (names_as_sold (Some id))) stood ∙ ap (names_as_sold (Some id)) varied; own = ap (variation_by (Some item)) stands ∙ is })

  by_item : (item : ℕ) (variation : Option ℕ) (row : Item) → item_at item lists ≡ Some row → GivesProduct (product_in item variation lists row) → IsProduct lists product
  by_item item None row stood h = by_itself item row stood h
  by_item item (Some id) row stood h = by_variation item id row stood h

  pub product_is : (item : ℕ) (variation : Option ℕ) → GivesProduct (product_of item variation lists) → IsProduct lists product
  product_is item variation h =
      let (row, stood, h1) = found _ _ _ h in
      by_item item variation row stood h1
