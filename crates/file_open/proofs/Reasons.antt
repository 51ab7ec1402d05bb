-- Why a file of an earlier version isn't opened: one reason from another.
use Rattle.std.proofs.Common.{◌≡◌, ℕ, inl, inr}
use Rattle.sqlite.specs.Effect.{Database}
use Rattle.file_schema.specs.Versions.{schema_of_version}
use Rattle.file_rows.specs.Tables.{HoldsAt}
use Rattle.file_scan.specs.declared.error.OpenError.{OpenError}
use Rattle.file_scan.specs.declared.error.OpenError.TheVariants.{Memory, NotAShop, Version, Damaged, Store}
use Rattle.file_scan.specs.declared.file.FileTables.{FileTables}
use Rattle.file_scan.specs.Causes.{IsCauseAs, IsReadableAs}
use Rattle.file_scan.specs.Lawful.{IsOfMachine}
use Rattle.file_scan.specs.Read.{tables_of}
use Rattle.file_open.specs.Why.{IsWhy}
use Rattle.file_open.specs.Refusals.{IsReasonAs, IsWhyAs}
use Rattle.file_open.specs.Supplied.{tables_supplied}

-- of rows that were supplied
pub why_as : (own : ℕ) (file full : FileTables) → tables_of full ≡ tables_supplied own (tables_of file) → (e : OpenError) → IsWhy full e → IsWhyAs own file e
why_as own file full is Memory h = tt
why_as own file full is NotAShop h = h
why_as own file full is (Version version) h = h
why_as own file full is (Damaged rule) h = record { full = full; is = is; order = h.0; least = h.1 }
why_as own file full is Store h = tt

-- of what was read
pub reason_as : (own : ℕ) (db : Database) (file : FileTables) → IsReadableAs own db → (db.schema ≡ schema_of_version own → HoldsAt own db.trees (tables_of file)) → (e : OpenError) → IsWhyAs own file e → IsReasonAs own db e
reason_as own db file readable held Memory h = tt
reason_as own db file readable held NotAShop h = absurd h
reason_as own db file readable held (Version version) h = absurd h
reason_as own db file readable held (Damaged rule) h = inr (readable, λ known. record { read = file; held = held known; broken = h })
reason_as own db file readable held Store h = tt

-- of what couldn't be read
pub unread_as : (own : ℕ) (db : Database) (e : OpenError) → IsCauseAs own db e → IsReasonAs own db e
unread_as own db Memory h = tt
unread_as own db NotAShop h = h
unread_as own db (Version version) h = h
unread_as own db (Damaged rule) h = inl h
unread_as own db Store h = tt

-- of the machine
pub machine_as : (own : ℕ) (db : Database) (e : OpenError) → IsOfMachine e → IsReasonAs own db e
machine_as own db Memory h = tt
machine_as own db NotAShop h = absurd h
machine_as own db (Version version) h = absurd h
machine_as own db (Damaged rule) h = absurd h
machine_as own db Store h = tt
