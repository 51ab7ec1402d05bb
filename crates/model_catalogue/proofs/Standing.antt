-- A quota that is one of the catalogue's is the one of its id.
use Rattle.std.proofs.Common.{◌≡◌, ℕ, ◌<◌, List, length, get_or, Some, ap}
use Rattle.std.proofs.lemmas.List.{get_or_default}
use Rattle.base_tables.specs.Tables.{row_at, AreInOrder}
use Rattle.base_tables.proofs.Places.{row_at_place}
use Rattle.model_catalogue.specs.declared.rows.Quota.{Quota}

pub stands_at : (quotas : List Quota) (i : ℕ) (d : Quota) → i < length quotas → AreInOrder (λ r. r.id) quotas → row_at (λ r. r.id) (get_or quotas i d).id quotas ≡ Some (get_or quotas i d)
stands_at quotas i d lt order = row_at_place (λ (q : Quota). q.id) 0 quotas (get_or quotas i d).id i d order (record { in_range = lt; has_id = λ e. ap (λ (q : Quota). q.id) (get_or_default quotas i e d lt) })
