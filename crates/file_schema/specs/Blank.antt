-- A file with no table.
use Rattle.std.specs.Prelude.{[]}
use Rattle.sqlite_schema.specs.declared.schema.Schema.{Schema}

-- no table at all
abbrev pub blank_schema : Schema
blank_schema = record { tables = []; indexes = []; views = [] }
