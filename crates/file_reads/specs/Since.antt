-- The schemas that have a table: those of the version that made it, and of each later one.
use Rattle.std.specs.Prelude.{◌≡◌, ◌≤◌, ℕ}
use Rattle.sqlite_schema.specs.declared.schema.Schema.{Schema}
use Rattle.file_schema.specs.Tables.{this_version}
use Rattle.file_schema.specs.Versions.{schema_of_version}

-- the schema of a version from this one on, up to this program's
pub record IsSince (first : ℕ) (s : Schema) : Type 0 where
  pub version : ℕ
  pub from : first ≤ version
  pub known : version ≤ this_version
  pub is : s ≡ schema_of_version version
