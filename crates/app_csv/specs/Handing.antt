-- Lines that are gathered, and handed on to a writer.
use Rattle.std.specs.Prelude.{◌≡◌, ℕ, ◌+◌, List, ◌++◌, Result, Ok, Err}
use Rattle.csv.specs.Writing.{writer_under}
use Rattle.base_devices.specs.Reported.{Adds}
use Rattle.web_http.specs.Written.{AddsPart, Page}
use Rattle.model_export.specs.declared.sink.SinkFault.{SinkFault}
use Rattle.model_export.specs.declared.sink.SinkFault.TheVariants.{Memory, Output}
use Rattle.app_csv.specs.Lines.{IsAtLine, written_text}
use Rattle.app_csv.specs.declared.positions.Lines.{Lines}

-- what comes next begins a line
abbrev pub IsReady : Lines → Type 0
IsReady lines = IsAtLine lines.text

-- the text of the lines
abbrev pub gathered_text : Lines → List ℕ
gathered_text lines = written_text (λ v. v.items) lines.text

-- the text of the lines but for the last bytes, which the CSV writer holds back
abbrev pub settled_text : Lines → List ℕ
settled_text lines = (writer_under lines.text).items

-- A text goes behind what is gathered, of which the front is handed on, perhaps none of it.
abbrev pub Goes : List ℕ → List ℕ → List ℕ → Page → Page → Type 0
Goes text before after old new = (part : List ℕ) × (before ++ text ≡ part ++ after) × Adds old.taken part new.taken × (new.failures ≡ old.failures)

-- A text isn't handed on: memory ran out, and nothing was; or the writer refused, which took a front of it, perhaps nothing, and counted that.
abbrev pub Stops : SinkFault → List ℕ → Page → Page → Type 0
Stops Memory text old new = new ≡ old
Stops Output text old new = AddsPart old.taken text new.taken × (new.failures ≡ old.failures + 1)

-- All of a text is handed on, or it isn't.
abbrev pub HandsOn : Result (Unit {0}) SinkFault → List ℕ → Page → Page → Type 0
HandsOn (Ok u) text old new = Adds old.taken text new.taken × (new.failures ≡ old.failures)
HandsOn (Err fault) text old new = Stops fault text old new
