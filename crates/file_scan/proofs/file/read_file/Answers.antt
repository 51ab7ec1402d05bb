use Rattle.std.proofs.Common.{arith}
use Rattle.file_schema.specs.Tables.{this_version}
use Rattle.file_rows.specs.Tables.{Holds}
use Rattle.file_reads.proofs.SinceLemmas.{since_this}
use Rattle.file_scan.specs.Read.{tables_of}
use Rattle.file_scan.proofs.ReadLemmas.{if_ok}
use Rattle.file_scan.proofs.file.read_file.Goals as goal

pub returns-clause-held : goal.returns-clause-held
returns-clause-held g c clean db at known = if_ok c.read_file_of.result _ (λ file. Holds db.trees (tables_of file)) (c.read_file_of.ensures.held clean db at (since_this this_version (omega arith) db.schema known)) (λ file h. h.shown)

pub returns-clause-store : goal.returns-clause-store
returns-clause-store g c clean db at known = c.read_file_of.ensures.store clean db at (since_this this_version (omega arith) db.schema known)
