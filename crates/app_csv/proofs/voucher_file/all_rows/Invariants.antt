use Rattle.std.proofs.Common.{◌≡◌, ◌<◌, ℕ, List, Some, map}
use Rattle.csv.specs.Reading.{Reached, Ready, default_config, source_of, strip_bom}
use Rattle.csv.specs.Records.{fields_of}
use Rattle.csv.specs.declared.parser.State.TheVariants as states
use Rattle.csv.specs.declared.reader.Trim.TheVariants as trims
use Rattle.app_csv.proofs.voucher_file.all_rows.Given as goal

-- the records so far take the text to what is left of it
abbrev pub invariant-loop-row : goal.invariant-loop-row
invariant-loop-row l = (l.row-iterator.rdr.trim ≡ trims.None) × Ready l.row-iterator.rdr × (0 < l.row-iterator.left) × (l.row-iterator.rdr.config ≡ default_config)
    × (left : List ℕ) × (source_of (λ s. Some s.now) l.row-iterator.rdr ≡ Some left)
    × Reached default_config states.StartRecord (strip_bom l.fn.text) (map fields_of l.rows.items) l.row-iterator.rdr.state left
