-- What the commands on a shop's file say.
use Rattle.std.specs.Prelude.{◌≡◌, ◌⊎◌, ℕ, ◌+◌, Bool, true, false, ◌&&◌, List, [], ◌∷◌, ◌++◌, Option, Result, Ok, Err, OnErr, codes}
use Rattle.std.specs.Fmt.{decimal}
use Rattle.std.specs.declared.net.socket_addr.SocketAddr.{SocketAddr}
use Rattle.base_values.specs.Slugs.{is_slug}
use Rattle.web_connection.specs.declared.failure.Failure.TheVariants as failures
use Rattle.base_devices.specs.Reported.{Adds}
use Rattle.base_devices.specs.declared.device.Drain.{Ghosts}
use Rattle.base_devices.specs.declared.device.Refused.{Refused}
use Rattle.web_http.specs.Written.{Page, Writes, writer_page}
use Rattle.web_cli.specs.declared.argument.Argument.{Argument}
use Rattle.web_cli.specs.declared.argument.Argument.TheVariants as arguments
use Rattle.web_cli.specs.declared.fault.RunFault.{RunFault}
use Rattle.web_cli.specs.declared.fault.RunFault.TheVariants as faults
use Rattle.web_cli.specs.declared.values.Report.{Report}
use Rattle.web_cli.specs.Values.{AreServeValues, is_token}

-- what is said of a call by the page of its writer before it, the page after it, and its result
abbrev pub OnPage : {W R : Type 0} → Ghosts W → (Page → Page → R → Type 0) → W → W → R → Type 0
OnPage g Comes before after result = Comes (writer_page g before) (writer_page g after) result

-- a line of two texts was written, or where the writer failed a part of it
abbrev pub WritesLine : List ℕ → List ℕ → Page → Page → Result (Unit {0}) Refused → Type 0
WritesLine first second old new written = Writes written (first ++ (second ++ 10 ∷ [])) old new

-- how a command ends that was done, by whether what it says was written
abbrev pub end_said : Result (Unit {0}) Refused → Result (Unit {0}) RunFault
end_said (Ok u) = Ok u
end_said (Err e) = Err (faults.Run failures.Output)

-- What came of a command is told: where it was done, by its line, of which a part was written where the writer failed; a fault by
-- nothing that is written.
abbrev pub Tells : {A : Type 0} → (A → List ℕ) → Result A RunFault → Page → Page → Result (Unit {0}) RunFault → Type 0
Tells line (Ok a) old new result = (written : Result (Unit {0}) Refused) × Writes written (line a) old new × (result ≡ end_said written)
Tells line (Err fault) old new result = (result ≡ Err fault) × (new ≡ old)

-- the line of a shop that was made
abbrev pub ready_line : Unit {0} → List ℕ
ready_line u = codes "ready" ++ 10 ∷ []

-- and of a token that has this number
abbrev pub token_line : ℕ → List ℕ
token_line number = codes "token " ++ (decimal number ++ 10 ∷ [])

-- what making a shop in a file may come to, by the file's name and the names of organizer and event
abbrev pub Making : Type 1
Making = List ℕ → List ℕ → List ℕ → Result (Unit {0}) RunFault → Type 0

-- what adding a token may come to, by the file's name and the token
abbrev pub Adding : Type 1
Adding = List ℕ → List ℕ → Result ℕ RunFault → Type 0

-- which of the two names is at fault, by whether the organizer's can be read: the first that can't
abbrev pub name_at_fault : Bool → Argument
name_at_fault true = arguments.Event
name_at_fault false = arguments.Organizer

-- where both names can be read a shop is made, and that is said; else the first that can't is at fault, and nothing is said
abbrev pub MakesWhere : Bool → Making → List ℕ → List ℕ → List ℕ → Page → Page → Result (Unit {0}) RunFault → Type 0
MakesWhere true made file organizer event old new result = (came : Result (Unit {0}) RunFault) × made file organizer event came × Tells ready_line came old new result
MakesWhere false made file organizer event old new result = (result ≡ Err (faults.Argument (name_at_fault (is_slug organizer)))) × (new ≡ old)

-- `init`: a shop is made in the file, and that is told; or one of the two names can't be read, and nothing is asked of a file
abbrev pub MakesShop : Making → List ℕ → List ℕ → List ℕ → Page → Page → Result (Unit {0}) RunFault → Type 0
MakesShop made file organizer event = MakesWhere (is_slug organizer && is_slug event) made file organizer event

-- where the token can be read it is added, and its number said; else the token is at fault, and nothing is said
abbrev pub AddsWhere : Bool → Adding → List ℕ → List ℕ → Page → Page → Result (Unit {0}) RunFault → Type 0
AddsWhere true added file token old new result = (came : Result ℕ RunFault) × added file token came × Tells token_line came old new result
AddsWhere false added file token old new result = (result ≡ Err (faults.Argument arguments.Token)) × (new ≡ old)

-- `token-add`: the token is added, and its number told; or it can't be read, and nothing is asked of a file
abbrev pub AddsToken : Adding → List ℕ → List ℕ → Page → Page → Result (Unit {0}) RunFault → Type 0
AddsToken added file token = AddsWhere (is_token token) added file token

-- the line of an address that is listened at
abbrev pub listening_line : List ℕ → List ℕ
listening_line listen = codes "listening on " ++ (listen ++ 10 ∷ [])

-- That the address is listened at is told once callers can come, and nothing else is written; where the writer fails, a part of the line
-- was, and the command ends with that. Nothing is written only beside a fault.
abbrev pub TellsListening : List ℕ → Page → Page → Result (Unit {0}) RunFault → Type 0
TellsListening listen old new result =
    ((written : Result (Unit {0}) Refused) × Writes written (listening_line listen) old new × OnErr written (result ≡ end_said written))
    ⊎ ((new ≡ old) × ((fault : RunFault) × (result ≡ Err fault)))

-- what serving the shop in a file may come to, by the file's name, the address, and how many connections are answered
abbrev pub Serving : Type 1
Serving = List ℕ → SocketAddr → ℕ → Result (Unit {0}) RunFault → Type 0

-- `serve`: the shop in the file is served at the address, and that is told; or one of the two values can't be read, which is named, and
-- nothing is asked of a file
abbrev pub ServesFile : Serving → List ℕ → List ℕ → Option (List ℕ) → Page → Page → Result (Unit {0}) RunFault → Type 0
ServesFile served file listen connections old new result =
    ((addr : SocketAddr) × (n : ℕ) × AreServeValues listen connections (Ok (addr, n)) × served file addr n result × TellsListening listen old new result)
    ⊎ ((argument : Argument) × AreServeValues listen connections (Err argument) × (result ≡ Err (faults.Argument argument)) × (new ≡ old))

-- what periodic work of the shop in a file may come to, by the file's name: a text of what was done
abbrev pub Working : Type 1
Working = List ℕ → Result (List ℕ) RunFault → Type 0

-- what a report on the shop in a file may come to, by the file's name and which it is: its text, whose lines have
-- ends
abbrev pub Reporting : Type 1
Reporting = List ℕ → Report → Result (List ℕ) RunFault → Type 0

-- `report`: the report is told as it is
abbrev pub ReportsFile : Reporting → List ℕ → Report → Page → Page → Result (Unit {0}) RunFault → Type 0
ReportsFile reported file report old new result = (came : Result (List ℕ) RunFault) × reported file report came × Tells (λ text. text) came old new result

-- what an export of the shop in a file may come to, by the file's name: what is written, and how it ends
abbrev pub Exporting : Type 1
Exporting = List ℕ → List ℕ → Result (Unit {0}) RunFault → Type 0

-- how many calls of the writer failed: one where the export is cut off, and else none
abbrev pub CountsCut : RunFault → ℕ → ℕ → Type 0
CountsCut faults.Unwritten before after = after ≡ before + 1
CountsCut _ before after = after ≡ before

-- how many calls of the writer failed: none where the export was written to its end
abbrev pub CountsEnd : Result (Unit {0}) RunFault → ℕ → ℕ → Type 0
CountsEnd (Ok u) before after = after ≡ before
CountsEnd (Err fault) before after = CountsCut fault before after

-- `export`: the order positions are written while they are read, up to the end or a fault
abbrev pub ExportsFile : Exporting → List ℕ → Page → Page → Result (Unit {0}) RunFault → Type 0
ExportsFile exported file old new result = (text : List ℕ) × exported file text result × Adds old.taken text new.taken × CountsEnd result old.failures new.failures

-- what adding the vouchers of a CSV file may come to, by the names of the shop's file and that one: a text of what became of each row,
-- whose lines have ends
abbrev pub Importing : Type 1
Importing = List ℕ → List ℕ → Result (List ℕ) RunFault → Type 0

-- `import-vouchers`: what became of the rows is told as it is
abbrev pub ImportsFile : Importing → List ℕ → List ℕ → Page → Page → Result (Unit {0}) RunFault → Type 0
ImportsFile imported file csv old new result = (came : Result (List ℕ) RunFault) × imported file csv came × Tells (λ text. text) came old new result

-- the line of such a text
abbrev pub work_line : List ℕ → List ℕ
work_line text = text ++ 10 ∷ []

-- `periodic`: the periodic work of the shop in the file is done, and what was done is told
abbrev pub WorksFile : Working → List ℕ → Page → Page → Result (Unit {0}) RunFault → Type 0
WorksFile worked file old new result = (came : Result (List ℕ) RunFault) × worked file came × Tells work_line came old new result
