-- Why a value or a row wasn't read.
use Rattle.std.specs.Prelude.{◌≢◌, ◌<◌, ℕ, length, Result, IfErr}
use Rattle.sqlite_value.specs.Order.{Row}
use Rattle.file_schema.specs.declared.error.RowError.{RowError}
use Rattle.file_schema.specs.declared.error.RowError.TheVariants.{Memory, Foreign, Damaged, Store}

-- for want of memory, or because of this damage, and for nothing else
abbrev pub IsUnread : Type 0 → RowError → Type 0
IsUnread damage Memory = Unit {0}
IsUnread damage Foreign = ⊥
IsUnread damage Damaged = damage
IsUnread damage Store = ⊥

-- where a row has this place, what stands there is refused for want of memory, or because of this damage
abbrev pub UnreadAt : {T : Type 0} → Row → ℕ → Result T RowError → Type 0 → Type 0
UnreadAt row at result damage = at < length row → IfErr result (IsUnread damage)

-- what is shown is shown by nothing
abbrev pub IsOfNone : {A B : Type 0} → (A → B) → B → Type 0
IsOfNone {A} shows shown = (x : A) → shown ≢ shows x

-- what is shown is shown by nothing within these limits
abbrev pub IsOfNoFit : {A B : Type 0} → (A → Type 0) → (A → B) → B → Type 0
IsOfNoFit {A} fits shows shown = (x : A) → fits x → shown ≢ shows x
