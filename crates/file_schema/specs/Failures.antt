-- What a failure of the store means.
use Rattle.sqlite.specs.declared.error.Error.{Error}
use Rattle.sqlite.specs.declared.error.Error.TheVariants.{SqliteFailure, SqlInputError, InvalidColumnIndex, InvalidColumnType, IntegralValueOutOfRange, Utf8Error}
use Rattle.sqlite.specs.declared.error.ErrorCode.TheVariants as code
use Rattle.sqlite_resolve.specs.declared.error.CompileError.{CompileError}
use Rattle.sqlite_resolve.specs.declared.error.CompileError.TheVariants as compile
use Rattle.sqlite_syntax.specs.declared.error.ParseError.TheVariants as parse
use Rattle.file_schema.specs.declared.error.RowError.{RowError}
use Rattle.file_schema.specs.declared.error.RowError.TheVariants.{Memory, Foreign, Damaged, Store}

-- a text that isn't understood has no meaning in the file, unless memory was refused
abbrev pub meaning_of : CompileError → RowError
meaning_of compile.OutOfMemory = Memory
meaning_of (compile.Parse parse.OutOfMemory) = Memory
meaning_of e = Foreign

-- a value that isn't of the asked kind is damage; all else is the store's
abbrev pub failure_of : Error → RowError
failure_of (SqliteFailure code.OutOfMemory) = Memory
failure_of (SqlInputError e) = meaning_of e
failure_of (InvalidColumnIndex at) = Damaged
failure_of (InvalidColumnType at kind) = Damaged
failure_of (IntegralValueOutOfRange at) = Damaged
failure_of (Utf8Error at) = Damaged
failure_of e = Store
