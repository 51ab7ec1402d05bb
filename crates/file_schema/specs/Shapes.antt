-- The commands that the statements of a table compile to, by its columns.
use Rattle.std.specs.Prelude.{◌≡◌, ℕ, ◌+◌, List, [], ◌∷◌, map, Option, Some, None, Result, Ok, Err, pos, negsuc, false}
use Rattle.std.specs.List.{range_with_len}
use Rattle.sqlite.specs.Collation.TheVariants.{Binary}
use Rattle.sqlite_value.specs.declared.value.Value.TheVariants.{Null, Int}
use Rattle.sqlite_value.specs.Keys.{ascending}
use Rattle.sqlite_value.specs.declared.keys.Key.{Key}
use Rattle.sqlite_sql.specs.Term.{Term, lit, col, op2}
use Rattle.sqlite_sql.specs.declared.ops.BinaryOp.TheVariants.{Compare}
use Rattle.sqlite_sql.specs.declared.ops.CompareOp.TheVariants.{Eq}
use Rattle.sqlite_sql.specs.Query.{Query, inner, end}
use Rattle.sqlite_schema.specs.declared.program.Program.{Program}
use Rattle.sqlite_schema.specs.declared.command.Command.{Command}
use Rattle.sqlite_schema.specs.declared.command.Command.TheVariants.{Insert, Delete, Update}
use Rattle.sqlite_schema.specs.declared.command.Source.TheVariants.{Values}
use Rattle.sqlite_resolve.specs.declared.compiled.Compiled.{Compiled}
use Rattle.sqlite_resolve.specs.declared.error.CompileError.{CompileError}
use Rattle.sqlite.specs.Given.{IsPlain}
use Rattle.sqlite.specs.Listing.{understood}
use Rattle.file_schema.specs.Tables.{schema}

-- what a text asks for that was understood
abbrev pub command_in : Result Compiled CompileError → Option Command
command_in (Ok c) = Some c.command
command_in (Err e) = None

-- over a shop's tables the text asks for this command alone: nothing is returned, and the time isn't read
abbrev pub AsksFor : Command → List ℕ → Type 0
AsksFor command sql = (command_in (understood schema sql) ≡ Some command) × IsPlain (understood schema sql)

-- as many places, from this one on
abbrev pub places : ℕ → ℕ → List ℕ
places from count = range_with_len from count

-- the query over one table, with a filter and what it shows
abbrev pub over : ℕ → List Term → List Term → List (Term × Key) → Query
over tree filter project order = record {
  from = inner tree end;
  filter = filter;
  group = None;
  project = project;
  distinct = false;
  collations = [];
  order = order;
  limit = lit (Int (negsuc 0));
  offset = lit (Int (pos 0));
}

-- the program that is this query alone
abbrev pub plainly : Query → Program
plainly q = record { lets = []; body = q }

-- the two are equal; texts are equal where their bytes are
abbrev pub equals : Term → Term → Term
equals a b = op2 (Compare Eq Binary) a b

-- INSERT of all columns, of a table with an INTEGER PRIMARY KEY first
abbrev pub insert_keyed : ℕ → ℕ → Command
insert_keyed at more = Insert at (Values (col 0 0 ∷ lit Null ∷ map (col 0) (places 1 more)) (more + 2))

-- DELETE of the row with this rowid
abbrev pub delete_keyed : ℕ → ℕ → Command
delete_keyed at tree = Delete at (plainly (over tree (equals (col 1 0) (col 0 0) ∷ []) (col 1 0 ∷ []) []))

-- UPDATE of all other columns of the row with this rowid, of a table with an INTEGER PRIMARY KEY first
abbrev pub update_keyed : ℕ → ℕ → ℕ → Command
update_keyed at tree more = Update at (plainly (over tree (equals (col 1 0) (col 0 0) ∷ []) (col 1 0 ∷ col 1 0 ∷ lit Null ∷ map (col 0) (places 1 more)) []))

-- ORDER BY the rowid, from the least up
abbrev pub id_order : List (Term × Key)
id_order = (col 1 0, ascending Binary) ∷ []

-- INSERT of all columns, of a table with no INTEGER PRIMARY KEY, whose rowid is given
abbrev pub insert_rowid : ℕ → ℕ → Command
insert_rowid at more = Insert at (Values (col 0 0 ∷ map (col 0) (places 1 more)) (more + 1))

-- UPDATE of all columns of the row with this rowid, of a table with no INTEGER PRIMARY KEY
abbrev pub update_rowid : ℕ → ℕ → ℕ → Command
update_rowid at tree more = Update at (plainly (over tree (equals (col 1 0) (col 0 0) ∷ []) (col 1 0 ∷ col 1 0 ∷ map (col 0) (places 1 more)) []))

-- the column behind the number is the parameter
abbrev pub by_owner : List Term
by_owner = equals (col 1 1) (col 0 0) ∷ []
