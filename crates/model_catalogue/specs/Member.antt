-- Which products a quota has, and how much room that takes.
use Rattle.std.specs.Prelude.{ℕ, Bool, Option, Some, None}
use Rattle.base_tables.specs.Tables.{has}
use Rattle.model_catalogue.specs.declared.rows.Quota.{Quota}
use Rattle.model_catalogue.specs.declared.rows.Product.{Product}

-- a variation is in a quota that lists it, and a product without one where its item is listed
abbrev pub lists : Quota → Product → Option ℕ → Bool
lists quota product None = has product.item quota.items
lists quota product (Some variation) = has variation quota.variations

-- the product is in the quota: by its variation, or, without one, by its item
abbrev pub is_in : Quota → Product → Bool
is_in quota product = lists quota product product.variation
