-- The quotas with one put: it stands in the place of its id.
use Rattle.std.specs.Prelude.{List}
use Rattle.base_tables.specs.Tables.{with_row}
use Rattle.model_catalogue.specs.declared.rows.Quota.{Quota}

-- the quotas with this one in the place of its id
abbrev pub quotas_with_put : Quota → List Quota → List Quota
quotas_with_put row quotas = with_row (λ r. r.id) row quotas
