-- What a request may take.
use Rattle.std.specs.Prelude.{ℕ, ◌≤◌, ◌⊎◌, Option, Some, None}
use Rattle.std.specs.List.{AllByRecursion}
use Rattle.model_catalogue.specs.declared.rows.Quota.{Quota}
use Rattle.model_rows.specs.Lists.{State}
use Rattle.model_rows.specs.Usage.{usage_of}
use Rattle.model_rows.specs.Total.{total}

-- how many places of a quota are used
abbrev pub places_used : State → Quota → ℕ
places_used state quota = total (usage_of state.lists state.moment quota)

-- what is used afterwards is within the size, or no more than was used before
abbrev pub IsWithin : Option ℕ → ℕ → ℕ → Type 0
IsWithin None before after = Unit {0}
IsWithin (Some size) before after = (after ≤ size) ⊎ (after ≤ before)

-- no quota is taken too much of
abbrev pub TakesNoMore : State → State → Type 0
TakesNoMore before after = AllByRecursion (λ quota. IsWithin quota.size (places_used before quota) (places_used after quota)) after.lists.catalogue.quotas
