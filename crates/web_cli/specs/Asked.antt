-- What the words of a command line ask for.
use Rattle.std.specs.Prelude.{◌≡◌, ◌==◌, ◌&&◌, ◌||◌, Bool, false, List, [], ◌∷◌, Option, Some, None, option_map, codes, ◌⊎◌, unwrap_or, nat_le, if◌then◌else◌}
use Rattle.std.specs.Str.{bytes_eq}
use Rattle.clap.specs.declared.error.ErrorKind.{ErrorKind}
use Rattle.clap.specs.declared.error.ErrorKind.TheVariants.{MissingRequiredArgument, OutOfMemory}
use Rattle.clap.specs.Words.{IsAmong, Kinds, Row, Text, fault_of, first_of, subcommand_of}
use Rattle.web_cli.specs.Words.{program}
use Rattle.web_cli.specs.declared.words.Line.{Line}
use Rattle.web_cli.specs.declared.words.Line.TheVariants as lines

-- a minus sign and a digit begin the word
abbrev pub is_signed : Text → Bool
is_signed (sign ∷ digit ∷ rest) = sign == 45 && (nat_le 48 digit && nat_le digit 57)
is_signed _ = false

-- a number follows the word
abbrev pub takes_number : Text → Bool
takes_number word = bytes_eq word (codes "--step") || bytes_eq word (codes "--connections") || bytes_eq word (codes "--list")

-- The words as they are read, and whether a number follows what stands before them: one with a minus sign is read there as the
-- empty text, which is no number either. By itself it would be a flag.
abbrev pub plain_behind : Bool → List Text → List Text
plain_behind is_number [] = []
plain_behind is_number (word ∷ rest) = (if is_number && is_signed word then [] else word) ∷ plain_behind (takes_number word) rest

-- all words of a line, as they are read
abbrev pub plain_words : List Text → List Text
plain_words words = plain_behind false words

-- What a line asks for: a run of `feed` with the texts of `--from` and `--step`; a shop in a new file of this name, for this
-- organizer and this event; this token for the shop in the file of this name; the shop in the file of this name at the text of
-- `--listen`, with the text of `--connections` where it is there, and whether `--log` is; the periodic work of the shop in the file of this name; the report
-- of this name on it, with the text of `--list` where it is there; the order positions of the shop in the file of this name; the
-- vouchers of a CSV file for it, by the names of both; the version of the tables of the shop in the file of this name; or nothing, for a
-- reason among these.
pub data Asked : Type 0 where
  runs : Text → Text → Asked
  makes : Text → Text → Text → Asked
  adds : Text → Text → Asked
  serves : Text → Text → Option Text → Bool → Asked
  works : Text → Asked
  reports : Text → Text → Option Text → Asked
  exports : Text → Asked
  imports : Text → Text → Asked
  migrates : Text → Asked
  none : Kinds → Asked

-- the text of an argument among the matches of the command, which is empty where there is none
abbrev pub text_of : Text → List Row → Text
text_of name rows = unwrap_or (first_of name rows) []

-- there is a text, and it is `true`
abbrev pub is_true : Option Text → Bool
is_true (Some text) = bytes_eq text (codes "true")
is_true None = false

-- whether a flag without a text is among the matches of the command
abbrev pub is_set : Text → List Row → Bool
is_set name rows = is_true (first_of name rows)

-- what a command with these matches asks for that names a file alone, or none
abbrev pub asked_of_few : Text → List Row → Asked
asked_of_few command rows =
    if bytes_eq command (codes "periodic") then works (text_of (codes "file") rows)
    else (if bytes_eq command (codes "export") then exports (text_of (codes "file") rows)
    else (if bytes_eq command (codes "migrate") then migrates (text_of (codes "file") rows)
    else runs (text_of (codes "from") rows) (text_of (codes "step") rows)))

-- what a command with these matches asks for
abbrev pub asked_of : Text → List Row → Asked
asked_of command rows =
    if bytes_eq command (codes "init") then makes (text_of (codes "file") rows) (text_of (codes "organizer") rows) (text_of (codes "event") rows)
    else (if bytes_eq command (codes "token-add") then adds (text_of (codes "file") rows) (text_of (codes "token") rows)
    else (if bytes_eq command (codes "serve") then serves (text_of (codes "file") rows) (text_of (codes "listen") rows) (first_of (codes "connections") rows) (is_set (codes "log") rows)
    else (if bytes_eq command (codes "report") then reports (text_of (codes "file") rows) (text_of (codes "report") rows) (first_of (codes "list") rows)
    else (if bytes_eq command (codes "import-vouchers") then imports (text_of (codes "file") rows) (text_of (codes "csv") rows)
    else asked_of_few command rows))))

-- a line that breaks no rule asks for what its command does, and without a command for a run with empty texts;
-- any other asks for nothing, for the reasons that were found
abbrev pub asked_by : Kinds → Option (Text × List Row) → Asked
asked_by [] None = runs [] []
asked_by [] (Some (command, rows)) = asked_of command rows
asked_by (kind ∷ kinds) found = none (kind ∷ kinds)

-- what these words ask for, of which the first is the program
unfoldable pub asked_for : List Text → Asked
asked_for words = asked_by (fault_of program words) (subcommand_of program words)

-- what a line that was read asks for
abbrev pub asked_by_line : Line → Asked
asked_by_line (lines.Feed line) = runs line.from.now line.step.now
asked_by_line (lines.Init line) = makes line.file.now line.organizer.now line.event.now
asked_by_line (lines.TokenAdd line) = adds line.file.now line.token.now
asked_by_line (lines.Serve line) = serves line.file.now line.listen.now (option_map (λ t. t.now) line.connections) line.log
asked_by_line (lines.Periodic line) = works line.file.now
asked_by_line (lines.Report line) = reports line.file.now line.report.now (option_map (λ t. t.now) line.list)
asked_by_line (lines.Export line) = exports line.file.now
asked_by_line (lines.Import line) = imports line.file.now line.csv.now
asked_by_line (lines.Migrate line) = migrates line.file.now

-- the line asks for nothing, since an argument is not there
abbrev pub lacks_argument : Asked
lacks_argument = none (MissingRequiredArgument ∷ [])

-- the line asks for nothing, and this is a reason of it
abbrev pub HasReason : Asked → ErrorKind → Type 0
HasReason (none kinds) kind = IsAmong kind kinds
HasReason _ kind = ⊥

-- an error says that there is no memory, or why the line asks for nothing
abbrev pub IsReason : Asked → ErrorKind → Type 0
IsReason asked kind = (kind ≡ OutOfMemory) ⊎ HasReason asked kind
