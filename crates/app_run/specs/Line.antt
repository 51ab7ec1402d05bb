-- What a command line comes to.
use Rattle.std.specs.Prelude.{◌≡◌, ◌⊎◌, ℕ, ◌+◌, ◌≤◌, Bool, true, false, List, Result, Ok, Err, codes}
use Rattle.clap.specs.Words.{IsAmong, Text}
use Rattle.clap.specs.declared.error.kind.ErrorKind.{ErrorKind}
use Rattle.std.specs.Str.{IsUtf8, bytes_eq}
use Rattle.web_connection.specs.declared.failure.Failure.TheVariants as failures
use Rattle.web_http.specs.Written.{Page}
use Rattle.web_cli.specs.declared.ended.LineEnd.{LineEnd}
use Rattle.web_cli.specs.declared.ended.LineEnd.TheVariants as ends
use Rattle.web_cli.specs.declared.argument.Argument.TheVariants as arguments
use Rattle.web_cli.specs.declared.fault.RunFault.{RunFault}
use Rattle.web_cli.specs.declared.fault.RunFault.TheVariants as faults
use Rattle.web_cli.specs.declared.files.HouseFiles.{Ghosts}
use Rattle.web_cli.specs.Asked.{Asked, adds, asked_for, exports, imports, makes, migrates, none, plain_words, reports, runs, serves, works}
use Rattle.web_cli.specs.Line.{end_of_line, end_of_report, end_of_run}
use Rattle.web_cli.specs.declared.values.Report.{Report}
use Rattle.web_cli.specs.declared.values.Report.TheVariants.{Version}
use Rattle.web_cli.specs.declared.values.ReportFault.{ReportFault}
use Rattle.web_cli.specs.Values.{feed_values, report_of}
use Rattle.web_handler.specs.Fed.{Ports}
use Rattle.app_run.specs.Feed.{FeedsTexts}
use Rattle.app_run.specs.Typed.{IsFirstLine, uncut}
use Rattle.web_cli.specs.Saying.{Adding, AddsToken, ExportsFile, ImportsFile, MakesShop, Reporting, ReportsFile, ServesFile, WorksFile}

-- what the writer took, and how many of its calls failed
abbrev pub page_of : Ports → Page
page_of ports = record { taken = ports.taken; failures = ports.output }

-- the writer alone went on
abbrev pub OnlyWrites : Ports → Ports → Type 0
OnlyWrites old new = new ≡ record old { taken = new.taken; output = new.output }

-- the report is told; or the line asks for none, and ends by why
abbrev pub ReportsWhere : Result Report ReportFault → Reporting → List ℕ → Page → Page → LineEnd → Type 0
ReportsWhere (Ok report) reported file old new ended = (run : Result (Unit {0}) RunFault) × ReportsFile reported file report old new run × (ended ≡ end_of_run run)
ReportsWhere (Err fault) reported file old new ended = (ended ≡ end_of_report fault) × (new ≡ old)

-- a command came to this on the writer's page, the writer alone went on, and the line ends as the command did
abbrev pub EndsAfter : (Page → Page → Result (Unit {0}) RunFault → Type 0) → Ports → Ports → LineEnd → Type 0
EndsAfter Comes old new ended = (run : Result (Unit {0}) RunFault) × Comes (page_of old) (page_of new) run × OnlyWrites old new × (ended ≡ end_of_run run)

-- the text of a line is added as a token, or is none, also where it isn't UTF-8: then the argument is at fault, and nothing is said
abbrev pub AddsLine : Adding → List ℕ → List ℕ → Page → Page → Result (Unit {0}) RunFault → Type 0
AddsLine added file text old new result =
    AddsToken added file text old new result ⊎ (¬ (IsUtf8 text) × (result ≡ Err (faults.Argument arguments.Token)) × (new ≡ old))

-- The first line of the reader came, and its text was added, or was no token; or the reader failed, and nothing is said. The reader is called
-- at most 256 times.
abbrev pub AddsTyped : Adding → List ℕ → Ports → Ports → Result (Unit {0}) RunFault → Type 0
AddsTyped added file old new result =
    (((line : List ℕ) × IsFirstLine line old.left new.left × AddsLine added file (uncut line) (page_of old) (page_of new) result × (new.input ≡ old.input))
    ⊎ ((result ≡ Err (faults.Run failures.Input)) × (page_of new ≡ page_of old) × (new.input ≡ old.input + 1)))
    × (new.calls ≤ old.calls + 256)

-- by whether the token is the first line of the reader, or the word, and then nothing is read
abbrev pub AddsBy : Bool → Adding → List ℕ → List ℕ → Ports → Ports → LineEnd → Type 0
AddsBy true added file token old new ended = (run : Result (Unit {0}) RunFault) × AddsTyped added file old new run × (ended ≡ end_of_run run)
AddsBy false added file token old new ended = EndsAfter (AddsToken added file token) old new ended

-- the token is the word of the line, but for `-`
abbrev pub AddsGiven : Adding → List ℕ → List ℕ → Ports → Ports → LineEnd → Type 0
AddsGiven added file token = AddsBy (bytes_eq token (codes "-")) added file token

-- What is done is what a line asks for: a run with the texts of its two flags; a shop that is made in a file, or a token that is added
-- to one (only for this the reader may be asked), or a shop in one that is served, or its periodic work that is done, or a report on one, or
-- its order positions, or the vouchers of a file that are added to one, or the version of its tables, and then nothing is read; or nothing,
-- for one of the reasons, and then nothing is read and nothing written. The files say what a command on one may come to.
abbrev pub Does : {F : Type 0} → Ghosts F → Asked → Ports → Ports → LineEnd → Type 0
Does files (runs from step) old new ended = (run : Result (Unit {0}) RunFault) × FeedsTexts (feed_values from step) old new run × (ended ≡ end_of_run run)
Does files (makes file organizer event) old new ended = EndsAfter (MakesShop files.made file organizer event) old new ended
Does files (adds file token) old new ended = AddsGiven files.added file token old new ended
Does files (serves file listen connections log) old new ended = EndsAfter (ServesFile files.served file listen connections) old new ended
Does files (works file) old new ended = EndsAfter (WorksFile files.worked file) old new ended
Does files (reports file name list) old new ended = ReportsWhere (report_of name list) files.reported file (page_of old) (page_of new) ended × OnlyWrites old new
Does files (exports file) old new ended = EndsAfter (ExportsFile files.exported file) old new ended
Does files (imports file csv) old new ended = EndsAfter (ImportsFile files.imported file csv) old new ended
Does files (migrates file) old new ended = EndsAfter (ReportsFile files.reported file Version) old new ended
Does files (none reasons) old new ended = (reason : ErrorKind) × IsAmong reason reasons × (ended ≡ end_of_line reason) × (new ≡ old)

-- what these words ask for is done, or there is no memory to read them, and then nothing is read and nothing written
abbrev pub Ran : {F : Type 0} → Ghosts F → List Text → Ports → Ports → LineEnd → Type 0
Ran files words old new ended = Does files (asked_for (plain_words words)) old new ended ⊎ ((ended ≡ ends.Failed faults.Memory) × (new ≡ old))
