-- Which quotas a change can touch: the usage of no other one changes.
use Rattle.std.specs.Prelude.{◌≡◌, ℕ, ◌==◌, Bool, false, List, Some, if◌then◌else◌}
use Rattle.base_tables.specs.Tables.{has}
use Rattle.model_catalogue.specs.declared.rows.Quota.{Quota}
use Rattle.model_catalogue.specs.CatalogueLists.{CatalogueLists, quota_at}
use Rattle.model_rows.specs.declared.rows.Usage.{Usage}
use Rattle.book_tally.specs.Amounts.{nothing}

-- the quota stands, and isn't among these
pub record IsOther (ids : List ℕ) (lists : CatalogueLists) (quota : Quota) : Type 0 where
  pub stands : quota_at quota.id lists ≡ Some quota
  pub absent : has quota.id ids ≡ false

-- no other quota passes
abbrev pub NoOther : List ℕ → CatalogueLists → (Quota → Bool) → Type 0
NoOther ids lists test = (quota : Quota) → IsOther ids lists quota → test quota ≡ false

-- no other quota has any of it
abbrev pub NoneElse : {A : Type 0} → A → List ℕ → CatalogueLists → (Quota → A) → Type 0
NoneElse none ids lists count = (quota : Quota) → IsOther ids lists quota → count quota ≡ none

-- the new ids are the old ones, and maybe more
abbrev pub Keeps : List ℕ → List ℕ → Type 0
Keeps old new = (id : ℕ) → has id new ≡ false → has id old ≡ false

-- what the quotas among these have of it
abbrev pub among : List ℕ → (Quota → Usage) → Quota → Usage
among ids count quota = if has quota.id ids then count quota else nothing

-- what the quota of this id has of it
abbrev pub at_id : ℕ → (Quota → Usage) → Quota → Usage
at_id id count quota = if quota.id == id then count quota else nothing
