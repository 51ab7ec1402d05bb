-- Which quotas list an item or a variation, as an index tells it.
use Rattle.std.specs.Prelude.{◌≡◌, ℕ, Bool, false, List, Option, Some, None, if◌then◌else◌, ◌==◌}
use Rattle.base_tables.specs.Tables.{has, row_at}
use Rattle.base_index.specs.Entries.{has_entry}
use Rattle.model_catalogue.specs.declared.rows.Quota.{Quota}

-- the quota, if there is one, lists the id
abbrev pub lists_id : (Quota → List ℕ) → ℕ → Option Quota → Bool
lists_id members id None = false
lists_id members id (Some quota) = has id (members quota)

-- the entries are the members of these quotas: an id with a quota's id, where that quota stands and lists it
abbrev pub AreMembers : (Quota → List ℕ) → List Quota → List ℕ → Type 0
AreMembers members quotas entries = (id quota : ℕ) → has_entry id quota entries ≡ lists_id members id (row_at (λ r. r.id) quota quotas)

-- the entries are the items of these quotas
abbrev pub AreListedItems : List Quota → List ℕ → Type 0
AreListedItems quotas entries = AreMembers (λ q. q.items) quotas entries

-- the entries are the variations of these quotas
abbrev pub AreListedVariations : List Quota → List ℕ → Type 0
AreListedVariations quotas entries = AreMembers (λ q. q.variations) quotas entries

-- the id is among these, where there are any
abbrev pub has_if : ℕ → Option (List ℕ) → Bool
has_if id None = false
has_if id (Some ids) = has id ids

-- the new entries have these ids with the quota in the place of those that it had
abbrev pub AreRelisted : ℕ → List ℕ → List ℕ → List ℕ → Type 0
AreRelisted quota ids old new = (id other : ℕ) → has_entry id other new ≡ (if quota == other then has id ids else has_entry id other old)
