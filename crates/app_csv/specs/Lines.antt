-- Lines of a CSV file, and their fields.
use Rattle.std.specs.Prelude.{◌≡◌, ℕ, List, [], ◌∷◌, ◌++◌, false, Option, Some, None}
use Rattle.std.specs.Fmt.{decimal}
use Rattle.std.specs.Global.{Vec}
use Rattle.csv.specs.Records.{fields_of, partial_of}
use Rattle.csv.specs.declared.record.ByteRecord.{ByteRecord}
use Rattle.csv.specs.declared.writer.Writer.{Writer}
use Rattle.csv.specs.Writing.{default_writer, fields_written, has_written, writer_pending, writer_setup, writer_under}

-- a writer that stands before a line, and sets commas, and quotes where they are needed
pub record IsAtLine {W : Type 0} (writer : Writer W) : Type 0 where
  pub setup : writer_setup writer ≡ default_writer
  pub fields : fields_written writer ≡ 0
  pub wrote : has_written writer ≡ false

-- what was written: what stands in the text, and what isn't handed on to it yet
abbrev pub written_text : {W : Type 0} → (W → List ℕ) → Writer W → List ℕ
written_text text writer = text (writer_under writer) ++ writer_pending writer

-- a writer of bytes that stood before a line has this text more
abbrev pub GainsText : List ℕ → Writer (Vec ℕ) → Writer (Vec ℕ) → Type 0
GainsText text old new = IsAtLine old → written_text (λ v. v.items) new ≡ written_text (λ v. v.items) old ++ text

-- the fields of a line with one more
pub record Gains (field : List ℕ) (old new : ByteRecord) : Type 0 where
  pub fields : fields_of new ≡ fields_of old ++ field ∷ []
  pub whole : partial_of new ≡ []

-- a number, or nothing
abbrev pub number_or_empty : Option ℕ → List ℕ
number_or_empty None = []
number_or_empty (Some n) = decimal n
