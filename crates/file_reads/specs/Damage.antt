-- Why rows of a table aren't read.
use Rattle.std.specs.Prelude.{◌≡◌, ◌≢◌, ℕ, List, map, Contains, None, Ok}
use Rattle.sqlite_value.specs.Order.{Row}
use Rattle.sqlite_trees.specs.Tree.{Trees}
use Rattle.sqlite_schema.specs.declared.schema.Schema.{Schema}
use Rattle.sqlite_resolve.specs.declared.compiled.Compiled.{Compiled}
use Rattle.sqlite.specs.Listing.{understood}
use Rattle.file_schema.specs.declared.error.RowError.{RowError}
use Rattle.file_schema.specs.declared.error.RowError.TheVariants.{Memory, Foreign, Damaged, Store}
use Rattle.file_schema.specs.Tables.{schema}
use Rattle.file_schema.specs.Parts.{row_shown}
use Rattle.file_rows.specs.Unread.{IsOfNoFit}

-- a row is that of no value within its limits
abbrev pub IsDamaged : {T : Type 0} → (T → Row) → (T → Type 0) → List Row → Type 0
IsDamaged {T} as_row fits rows = (r : Row) × Contains rows r × IsOfNoFit fits as_row r

-- a row that a shop's table of this tree shows is that of no value within its limits
abbrev pub ShowsDamage : {T : Type 0} → (T → Row) → (T → Type 0) → ℕ → Trees → Type 0
ShowsDamage as_row fits tree db = IsDamaged as_row fits (map (row_shown schema tree) (db tree))

-- 60 is told because of the first, 62 because of the second; that memory is refused or the store fails has no cause in the file
abbrev pub IsFor : (foreign damage : Type 0) → RowError → Type 0
IsFor foreign damage Memory = Unit {0}
IsFor foreign damage Foreign = foreign
IsFor foreign damage Damaged = damage
IsFor foreign damage Store = Unit {0}

-- the text is a statement over the schema
abbrev pub HasMeaning : Schema → List ℕ → Type 0
HasMeaning schema sql = (c : Compiled) × (understood schema sql ≡ Ok c)

-- the text is no statement over the schema
abbrev pub HasNoMeaning : Schema → List ℕ → Type 0
HasNoMeaning schema sql = (c : Compiled) → understood schema sql ≢ Ok c

-- where it is one, it writes nothing of which it then tells
abbrev pub IsForReading : Schema → List ℕ → Type 0
IsForReading schema sql = (c : Compiled) → understood schema sql ≡ Ok c → c.returning ≡ None
