-- Items that are offered with a list of items are offered with the same items in rising order.
use Rattle.std.proofs.Common.{◌≡◌, ℕ, Bool, List, [], ◌∷◌, Option, Some, None, refl, ap, ap₂}
use Rattle.std.specs.Prelude.{◌&&◌, ◌||◌, not}
use Rattle.std.specs.List.{list_all}
use Rattle.base_tables.specs.Rising.{rising}
use Rattle.base_tables.proofs.RisingLemmas.{has-rising}
use Rattle.model_catalogue.specs.declared.rows.Item.{Item}
use Rattle.model_catalogue.specs.CatalogueLists.{CatalogueLists, item_at}
use Rattle.model_catalogue.specs.QuotaAdded.{is_offered}

one_offered : (items : List ℕ) (item : Option Item) → is_offered (rising items) item ≡ is_offered items item
one_offered items None = refl
one_offered items (Some item) = ap (λ (b : Bool). not item.varied || b) (has-rising item.id items)

pub all_offered : (items ids : List ℕ) (lists : CatalogueLists) → list_all (λ id. is_offered (rising items) (item_at id lists)) ids ≡ list_all (λ id. is_offered items (item_at id lists)) ids
all_offered items [] lists = refl
all_offered items (id ∷ ids) lists = ap₂ (λ (a b : Bool). a && b) (one_offered items (item_at id lists)) (all_offered items ids lists)

-- the items of these variations, in whatever way they were sorted
pub offered_is : (offered items ids : List ℕ) (lists : CatalogueLists) → offered ≡ rising items → list_all (λ id. is_offered offered (item_at id lists)) ids ≡ list_all (λ id. is_offered items (item_at id lists)) ids
offered_is offered items ids lists is = rw is (all_offered items ids lists)
