-- What a catalogue that finds rows by keys keeps, and how much room a row takes there.
use Rattle.std.specs.Prelude.{ℕ, List, map, filter, ◌+◌, length}
use Rattle.model_catalogue.specs.declared.rows.Product.{Product}
use Rattle.model_catalogue.specs.Member.{is_in}
use Rattle.model_catalogue.specs.CatalogueLists.{CatalogueLists}
use Rattle.model_catalogue.specs.declared.rows.Quota.{Quota}

-- the lists, and how many rows each of them can be given without taking memory
pub record CatalogueTables : Type 0 where
  pub lists : CatalogueLists
  pub room : ℕ

-- the quotas that a product is in, by id
abbrev pub quotas_of : Product → CatalogueLists → List ℕ
quotas_of product lists = map (λ quota. quota.id) (filter (λ quota. is_in quota product) lists.quotas)

-- how much room a quota takes: for its row, and for each of its members
abbrev pub quota_weight : Quota → ℕ
quota_weight quota = 1 + (length quota.items + length quota.variations)
