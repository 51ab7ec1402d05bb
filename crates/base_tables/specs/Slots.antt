-- Tables from which rows often go: places, each with a row or with the id of one that is gone.
use Rattle.std.specs.Prelude.{ℕ, Bool, true, false, List, Option, Some, None}
use Rattle.std.specs.List.{filter_map}
use Rattle.base_tables.specs.declared.slot.Slot.{Slot}
use Rattle.base_tables.specs.declared.slot.Slot.TheVariants.{Full, Gone}

-- the id of the row that stands there, or of the one that is gone
abbrev pub slot_key : {T : Type 0} → (T → ℕ) → Slot T → ℕ
slot_key key (Full row) = key row
slot_key key (Gone id) = id

-- the row that stands there
abbrev pub row_in : {T : Type 0} → Slot T → Option T
row_in (Full row) = Some row
row_in (Gone id) = None

-- the place has a row
abbrev pub is_full : {T : Type 0} → Slot T → Bool
is_full (Full row) = true
is_full (Gone id) = false

-- the rows that stand
abbrev pub rows_in : {T : Type 0} → List (Slot T) → List T
rows_in slots = filter_map row_in slots

-- how many rows that is
abbrev pub count_if : {T : Type 0} → Option T → ℕ
count_if None = 0
count_if (Some row) = 1
