-- A quota that gets another size.
use Rattle.std.specs.Prelude.{ℕ, Result, Ok, unwrap_or}
use Rattle.std.specs.Option.{ok_or}
use Rattle.base_values.specs.Deciding.{◌>>=◌}
use Rattle.model_catalogue.specs.declared.rows.Quota.{Quota}
use Rattle.model_catalogue.specs.declared.requests.QuotaPatch.{QuotaPatch}
use Rattle.model_catalogue.specs.declared.refusal.CatalogueRefusal.{CatalogueRefusal}
use Rattle.model_catalogue.specs.declared.refusal.CatalogueRefusal.TheVariants.{NoQuota}
use Rattle.model_catalogue.specs.CatalogueLists.{CatalogueLists, quota_at}

-- the size that is given, or else its own; its members never change
abbrev pub patched_quota : QuotaPatch → Quota → Quota
patched_quota patch row = record row { size = unwrap_or patch.size row.size }

-- the row as it is afterwards
abbrev pub quota_resized : ℕ → QuotaPatch → CatalogueLists → Result Quota CatalogueRefusal
quota_resized id patch lists = do
  row ← ok_or (quota_at id lists) NoQuota
  Ok (patched_quota patch row)
