-- A table on which a statement does nothing but what it says.
use Rattle.std.specs.Prelude.{◌≡◌, ℕ, [], Bool, true, false, Some, slice_get, ◌&&◌}
use Rattle.std.specs.List.{list_all}
use Rattle.sqlite_schema.specs.declared.schema.Action.{Action}
use Rattle.sqlite_schema.specs.declared.schema.Action.TheVariants.{Restrict, NoAction}
use Rattle.sqlite_schema.specs.declared.schema.Reference.{Reference}
use Rattle.sqlite_schema.specs.declared.schema.Table.{Table}
use Rattle.sqlite_schema.specs.declared.schema.Schema.{Schema}

-- an action that does nothing but refuse
abbrev pub restricts : Action → Bool
restricts Restrict = true
restricts NoAction = true
restricts _ = false

-- a reference that does nothing but refuse, where its parent is deleted and where it is updated
abbrev pub only_refuses : Reference → Bool
only_refuses ref = restricts ref.on_delete && restricts ref.on_update

-- no reference of any table does more
abbrev pub only_restricts : Schema → Bool
only_restricts schema = list_all (λ (t : Table). list_all only_refuses t.references) schema.tables

-- the table stands at this place of the schema, counts no ids and stamps no columns; and nothing is removed or changed for another's sake
pub record IsPlainTable (schema : Schema) (at : ℕ) (table : Table) : Type 0 where
  pub placed : slice_get schema.tables at ≡ Some table
  pub uncounted : table.is_counted ≡ false
  pub unstamped : table.stamps.terms ≡ []
  pub restricts : only_restricts schema ≡ true
