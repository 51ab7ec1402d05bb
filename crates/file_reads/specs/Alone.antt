-- A text that the store can run over a shop's tables, whatever they hold.
use Rattle.std.specs.Prelude.{◌≡◌, ◌==◌, ◌&&◌, nat_le, ℕ, Bool, true, false, List, [], length, Result, Ok, Err}
use Rattle.sqlite_schema.specs.declared.command.Command.{Command}
use Rattle.sqlite_schema.specs.declared.command.Command.TheVariants.{Select}
use Rattle.sqlite_schema.specs.Program.{lets_of}
use Rattle.sqlite_typing.specs.Types.{accepts_program}
use Rattle.sqlite_resolve.specs.declared.compiled.Compiled.{Compiled}
use Rattle.sqlite_resolve.specs.declared.error.CompileError.{CompileError}
use Rattle.sqlite.specs.Listing.{understood}
use Rattle.sqlite_schema.specs.declared.schema.Schema.{Schema}
use Rattle.file_reads.specs.Since.{IsSince}

-- a query that isn't refused for the types of what it reads
abbrev pub is_accepted : Schema → Command → Bool
is_accepted s (Select q names) = accepts_program s (lets_of q) q.body []
is_accepted s command = false

-- the statement ends where the text does, has no parameters, and is a query that isn't refused for types
abbrev pub is_alone : Schema → List ℕ → Result Compiled CompileError → Bool
is_alone s sql (Ok c) = nat_le (length sql) c.tail && ((length c.names == 0) && is_accepted s c.command)
is_alone s sql (Err e) = false

-- over tables of this schema it is one statement without parameters, a query that isn't refused for types
abbrev pub RunsAloneIn : Schema → List ℕ → Type 0
RunsAloneIn s sql = is_alone s sql (understood s sql) ≡ true

-- over those of each version from this one on
abbrev pub RunsAloneSince : ℕ → List ℕ → Type 0
RunsAloneSince first sql = (s : Schema) → IsSince first s → RunsAloneIn s sql
