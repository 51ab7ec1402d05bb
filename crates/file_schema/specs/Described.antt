-- A table as a value, from which its texts, the record that its CREATE defines and the commands of its statements follow.
use Rattle.std.specs.Prelude.{ℕ, suc, ◌+◌, ◌-◌, ◌/◌, ◌%◌, ◌==◌, nat_lt, if◌then◌else◌, Bool, true, false, List, [], ◌∷◌, ◌++◌, map, length, take, drop, Option, Some, None, codes, pos}
use Rattle.std.specs.List.{flat_map}
use Rattle.sqlite.specs.Collation.TheVariants.{Binary}
use Rattle.sqlite_value.specs.declared.value.Value.TheVariants.{Null, Int}
use Rattle.sqlite_value.specs.Keys.{plain}
use Rattle.sqlite_sql.specs.Term.{Term, lit, col, op2}
use Rattle.sqlite_sql.specs.declared.ops.BinaryOp.TheVariants.{Compare, Or}
use Rattle.sqlite_sql.specs.declared.ops.CompareOp.TheVariants.{Eq}
use Rattle.sqlite_schema.specs.declared.schema.Column.{Column}
use Rattle.sqlite_schema.specs.declared.schema.Table.{Table}
use Rattle.sqlite_schema.specs.declared.schema.Reference.{Reference}
use Rattle.sqlite_schema.specs.declared.schema.Action.TheVariants.{Restrict, NoAction}
use Rattle.sqlite_schema.specs.declared.schema.Kind.{Kind}
use Rattle.sqlite_schema.specs.declared.schema.Kind.TheVariants.{Integer, Real, Text, Blob, Any}

-- ---- what is said of a table

-- a column: its name, what it holds, whether it is NOT NULL, 0 or 1 alone, UNIQUE, and the table to which it refers
pub record Field : Type 0 where
  pub name : List ℕ
  pub kind : Kind
  pub needed : Bool
  pub truth : Bool
  pub unique : Bool
  pub parent : Option (List ℕ)

-- INTEGER NOT NULL
abbrev pub number : List ℕ → Field
number name = record { name = name; kind = Integer; needed = true; truth = false; unique = false; parent = None }

-- TEXT NOT NULL
abbrev pub text : List ℕ → Field
text name = record { name = name; kind = Text; needed = true; truth = false; unique = false; parent = None }

-- BLOB NOT NULL
abbrev pub blob : List ℕ → Field
blob name = record { name = name; kind = Blob; needed = true; truth = false; unique = false; parent = None }

-- 0 or 1
abbrev pub flag : List ℕ → Field
flag name = record { name = name; kind = Integer; needed = true; truth = true; unique = false; parent = None }

-- the id of a row of another table
abbrev pub refers : List ℕ → List ℕ → Field
refers name parent = record { name = name; kind = Integer; needed = true; truth = false; unique = false; parent = Some parent }

-- a column as it was, which may be null
abbrev pub optional : Field → Field
optional f = record f { needed = false }

-- a column as it was, which no two rows share
abbrev pub unique : Field → Field
unique f = record f { unique = true }

-- a table: its name, its tree, the first version that has it, its INTEGER PRIMARY KEY, if it has one, and whether that is the id of
-- a row of another table, its other columns, and by their places the columns of its primary key, if that is of several, and of what is UNIQUE
pub record Described : Type 0 where
  pub name : List ℕ
  pub tree : ℕ
  pub since : ℕ
  pub key : Option (List ℕ × Option (List ℕ))
  pub fields : List Field
  pub primary : List ℕ
  pub uniques : List (List ℕ)

-- a table with an INTEGER PRIMARY KEY
abbrev pub table_by_id : List ℕ → ℕ → ℕ → List ℕ → List Field → List (List ℕ) → Described
table_by_id name tree since key fields uniques = record { name = name; tree = tree; since = since; key = Some (key, None); fields = fields; primary = []; uniques = uniques }

-- a table whose rows have a number alone, and whose primary key is its first two columns
abbrev pub table_of_links : List ℕ → ℕ → ℕ → List Field → Described
table_of_links name tree since fields = record { name = name; tree = tree; since = since; key = None; fields = fields; primary = 1 ∷ 2 ∷ []; uniques = [] }

-- ---- the record that its CREATE defines; a column is named by its place from 1, the INTEGER PRIMARY KEY is 0

-- the column that a field is
abbrev column_of : Field → Column
column_of f = record { name = f.name; kind = f.kind; is_strict = true; not_null = f.needed; default = Null; collation = Binary }

-- the INTEGER PRIMARY KEY as the first column, where there is one
abbrev key_columns : Option (List ℕ × Option (List ℕ)) → List Column
key_columns None = []
key_columns (Some k) = record { name = k.0; kind = Integer; is_strict = true; not_null = false; default = Null; collation = Binary } ∷ []

-- the place of the first field, behind the INTEGER PRIMARY KEY where there is one
abbrev pub first_place : Option (List ℕ × Option (List ℕ)) → ℕ
first_place None = 1
first_place (Some k) = 2

-- the column at this place refers to a table, whose rows it keeps from being deleted
abbrev reference : ℕ → List ℕ → Reference
reference at parent = record { columns = at ∷ []; parent = parent; parent_columns = []; on_delete = Restrict; on_update = NoAction; is_deferred = false }

-- to the table that is named, if any is
abbrev references_to : ℕ → Option (List ℕ) → List Reference
references_to at None = []
references_to at (Some parent) = reference at parent ∷ []

-- what fields refer to, the first of them at this place
abbrev references_from : ℕ → List Field → List Reference
references_from at [] = []
references_from at (f ∷ fs) = references_to at f.parent ++ references_from (suc at) fs

-- what the INTEGER PRIMARY KEY refers to
abbrev key_references : Option (List ℕ × Option (List ℕ)) → List Reference
key_references None = []
key_references (Some k) = references_to 0 k.1

-- the column at this place is this number
abbrev is_number : ℕ → ℕ → Term
is_number at n = op2 (Compare Eq Binary) (col 1 at) (lit (Int (pos n)))

-- CHECK (.. IN (0, 1)) of each truth value, the first field at this place
abbrev checks_from : ℕ → List Field → List Term
checks_from at [] = []
checks_from at (f ∷ fs) = (if f.truth then op2 Or (is_number at 0) (is_number at 1) ∷ [] else []) ++ checks_from (suc at) fs

-- each field that is UNIQUE by itself, the first field at this place
abbrev uniques_from : ℕ → List Field → List (List ℕ)
uniques_from at [] = []
uniques_from at (f ∷ fs) = (if f.unique then (at ∷ []) ∷ [] else []) ++ uniques_from (suc at) fs

-- a primary key of several columns is UNIQUE too
abbrev primary_uniques : List ℕ → List (List ℕ)
primary_uniques [] = []
primary_uniques (p ∷ ps) = (p ∷ ps) ∷ []

-- the place of the INTEGER PRIMARY KEY
abbrev key_place : Option (List ℕ × Option (List ℕ)) → Option ℕ
key_place None = None
key_place (Some k) = Some 0

-- the places of the primary key
abbrev primary_of : Option (List ℕ × Option (List ℕ)) → List ℕ → List ℕ
primary_of None primary = primary
primary_of (Some k) primary = 0 ∷ []

-- all that is UNIQUE: the primary key, single columns, and what the table says
abbrev all_uniques : Described → List (List ℕ)
all_uniques d = primary_uniques d.primary ++ uniques_from (first_place d.key) d.fields ++ d.uniques

-- the record that the CREATE of the table defines
abbrev pub table_of : Described → Table
table_of d = record {
  name = d.name;
  tree = d.tree;
  columns = key_columns d.key ++ map column_of d.fields;
  key = key_place d.key;
  primary = primary_of d.key d.primary;
  uniques = all_uniques d;
  orders = map (λ _. plain) (all_uniques d);
  checks = checks_from (first_place d.key) d.fields;
  references = key_references d.key ++ references_from (first_place d.key) d.fields;
  computed = [];
  stamps = record { places = []; terms = []; formats = [] };
  is_counted = false;
}

-- ---- its texts

-- texts with `, ` between each two
abbrev pub with_commas : List (List ℕ) → List ℕ
with_commas [] = []
with_commas (t ∷ []) = t
with_commas (t ∷ more) = t ++ codes ", " ++ with_commas more

-- a number under 100
abbrev digits : ℕ → List ℕ
digits n = if nat_lt n 10 then (48 + n) ∷ [] else (48 + n / 10) ∷ (48 + n % 10) ∷ []

-- the parameter of this number
abbrev parameter : ℕ → List ℕ
parameter n = 63 ∷ digits n

-- the word for what a column holds
abbrev kind_word : Kind → List ℕ
kind_word Integer = codes " INTEGER"
kind_word Real = codes " REAL"
kind_word Text = codes " TEXT"
kind_word Blob = codes " BLOB"
kind_word Any = codes " ANY"

-- the words for the table that a column refers to
abbrev parent_words : Option (List ℕ) → List ℕ
parent_words None = []
parent_words (Some parent) = codes " REFERENCES " ++ parent ++ codes " ON DELETE RESTRICT"

-- a column in CREATE
abbrev field_text : Field → List ℕ
field_text f = f.name ++ kind_word f.kind ++ (if f.needed then codes " NOT NULL" else []) ++ (if f.unique then codes " UNIQUE" else [])
    ++ (if f.truth then codes " CHECK (" ++ f.name ++ codes " IN (0, 1))" else []) ++ parent_words f.parent

-- the INTEGER PRIMARY KEY in CREATE, where there is one
abbrev key_texts : Option (List ℕ × Option (List ℕ)) → List (List ℕ)
key_texts None = []
key_texts (Some k) = (k.0 ++ codes " INTEGER PRIMARY KEY" ++ parent_words k.1) ∷ []

-- the name of the row's number
abbrev pub rowid_name : Option (List ℕ × Option (List ℕ)) → List ℕ
rowid_name None = codes "rowid"
rowid_name (Some k) = k.0

-- the names of the columns by their places
abbrev names_at : ℕ → List Field → List ℕ → List (List ℕ)
names_at first fields places = flat_map (λ at. map (λ (f : Field). f.name) (take 1 (drop (at - first) fields))) places

-- PRIMARY KEY (..) behind the columns, where it is of several
abbrev key_rules : ℕ → List Field → List ℕ → List (List ℕ)
key_rules first fields [] = []
key_rules first fields (p ∷ ps) = (codes "PRIMARY KEY (" ++ with_commas (names_at first fields (p ∷ ps)) ++ codes ")") ∷ []

-- CREATE TABLE
abbrev pub create_text : Described → List ℕ
create_text d = codes "CREATE TABLE " ++ d.name ++ codes " ("
    ++ with_commas (key_texts d.key ++ map field_text d.fields ++ key_rules (first_place d.key) d.fields d.primary
    ++ map (λ places. codes "UNIQUE (" ++ with_commas (names_at (first_place d.key) d.fields places) ++ codes ")") d.uniques) ++ codes ") STRICT"

-- the row's number, and all other columns
abbrev pub column_names : Described → List (List ℕ)
column_names d = rowid_name d.key ∷ map (λ (f : Field). f.name) d.fields

-- the parameters of fields, from this number on
abbrev parameters_from : ℕ → List Field → List (List ℕ)
parameters_from n [] = []
parameters_from n (f ∷ fs) = parameter n ∷ parameters_from (suc n) fs

-- `name = parameter` of fields, from this number on
abbrev sets_from : ℕ → List Field → List (List ℕ)
sets_from n [] = []
sets_from n (f ∷ fs) = (f.name ++ codes " = " ++ parameter n) ∷ sets_from (suc n) fs

-- a table of a key alone is updated by what it is
abbrev sets : Described → List (List ℕ)
sets d = if length d.fields == 0 then (rowid_name d.key ++ codes " = " ++ rowid_name d.key) ∷ [] else sets_from 2 d.fields

-- INSERT of all columns
abbrev pub insert_text : Described → List ℕ
insert_text d = codes "INSERT INTO " ++ d.name ++ codes " (" ++ with_commas (column_names d) ++ codes ") VALUES (" ++ with_commas (parameter 1 ∷ parameters_from 2 d.fields) ++ codes ")"

-- UPDATE of all columns of the row that has the number
abbrev pub update_text : Described → List ℕ
update_text d = codes "UPDATE " ++ d.name ++ codes " SET " ++ with_commas (sets d) ++ codes " WHERE " ++ rowid_name d.key ++ codes " = ?1"

-- DELETE of the row that has the number
abbrev pub delete_text : Described → List ℕ
delete_text d = codes "DELETE FROM " ++ d.name ++ codes " WHERE " ++ rowid_name d.key ++ codes " = ?1"

-- SELECT of all columns, by the number
abbrev pub select_text : Described → List ℕ
select_text d = codes "SELECT " ++ with_commas (column_names d) ++ codes " FROM " ++ d.name ++ codes " ORDER BY " ++ rowid_name d.key

-- ---- by the first column, of a table whose rows have an owner in it

-- the name of the first field
abbrev first_name : List Field → List ℕ
first_name [] = []
first_name (f ∷ fs) = f.name

-- DELETE of the rows of an owner
abbrev pub delete_owned_text : Described → List ℕ
delete_owned_text d = codes "DELETE FROM " ++ d.name ++ codes " WHERE " ++ first_name d.fields ++ codes " = ?1"

-- SELECT of all columns of the rows of an owner
abbrev pub select_owned_text : Described → List ℕ
select_owned_text d = codes "SELECT " ++ with_commas (column_names d) ++ codes " FROM " ++ d.name ++ codes " WHERE " ++ first_name d.fields ++ codes " = ?1"
